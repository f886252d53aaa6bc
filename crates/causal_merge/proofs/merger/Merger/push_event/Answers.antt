use Rattle.std.proofs.lemmas.Result.{err_from_is_err_and}
use Rattle.causal_merge.proofs.merger.Merger.push_event.Goals as goal

pub returns-in_err-push-clause-detail : goal.returns-in_err-push-clause-detail
returns-in_err-push-clause-detail c =
    let p = err_from_is_err_and c.from_residual.result c.from_residual.ensures.1 in
    rw (p.1, p.2) (λ other sends. cc (c.in_err-push.ensures.detail other, c.event_entry-entry.ensures sends, c.name_of-name.ensures))
