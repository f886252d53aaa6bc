use Rattle.std.proofs.lemmas.Result.{IfOk-weaker, err_from_is_err_and}
use Rattle.causal_merge.proofs.ReadLemmas.{ok_of_reader, err_of_reader}
use Rattle.causal_merge.proofs.recording_reader.RecordingReader.merge.Goals as goal

pub returns-clause-ok : goal.returns-clause-ok
returns-clause-ok c =
    rw (← c.self.view_is)
    (ok_of_reader c.self.inside.limits.entries c.self.inside.size c.self.inside.files c.in_ok-ordered.ordered _ c.merge_run.result c.in_ok-ordered.ensures.ok (IfOk-weaker c.merge_run.result _ _ (λ merged h text o. (_, h text o)) c.merge_run.ensures.ok))

pub returns-clause-err : goal.returns-clause-err
returns-clause-err c =
    rw (← c.self.view_is)
    (err_of_reader c.self.inside.limits.entries c.self.inside.size c.self.inside.files c.in_ok-ordered.ordered _ c.merge_run.result c.in_ok-ordered.ensures.ok c.merge_run.ensures.err)

pub returns-in_err-ordered : goal.returns-in_err-ordered
returns-in_err-ordered c =
    let p = err_from_is_err_and c.from_residual.result c.from_residual.ensures.1 in
    rw (p.1, p.2, ← c.self.view_is) (record { ok = tt; err = λ most text read other. c.in_err-ordered.ensures.err most text read.2 })
