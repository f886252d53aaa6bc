use Rattle.std.proofs.Common.{inl}
use Rattle.std.proofs.lemmas.Result.{err_from_is_err_and, IfOk-weaker, IfErr-weaker}
use Rattle.causal_line.specs.Lines.{lines}
use Rattle.causal_merge.proofs.Lemmas.ReadParts.{read_whole, whole_refused}
use Rattle.causal_reading.proofs.merging.merge_by.Goals as goal

pub returns-clause-ok : goal.returns-clause-ok
returns-clause-ok g c =
    let read = read_whole c.args.limits.entries c.within-before.result c.in_ok-reader.reader (lines c.args.text.now) c.within-before.ensures c.in_ok-reader.ensures in
    IfOk-weaker c.merge.result _ _ (λ merged h. h c.args.limits.entries c.args.text.now read) c.merge.ensures.ok

pub returns-clause-err : goal.returns-clause-err
returns-clause-err g c =
    let read = read_whole c.args.limits.entries c.within-before.result c.in_ok-reader.reader (lines c.args.text.now) c.within-before.ensures c.in_ok-reader.ensures in
    IfErr-weaker c.merge.result _ _ (λ fault h. h c.args.limits.entries c.args.text.now read) c.merge.ensures.err

pub returns-in_err-reader-clause-err : goal.returns-in_err-reader-clause-err
returns-in_err-reader-clause-err g c =
    let p = err_from_is_err_and c.from_residual.result c.from_residual.ensures.1 in
    rw (p.1, p.2) (λ other. inl (whole_refused c.args.limits.entries c.within-before.result (lines c.args.text.now) _ c.within-before.ensures c.in_err-reader.ensures other))
