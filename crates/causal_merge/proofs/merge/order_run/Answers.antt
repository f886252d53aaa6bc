use Rattle.std.proofs.Common.{arith}
use Rattle.std.proofs.lemmas.Result.{err_from_is_err_and}
use Rattle.causal_merge.proofs.ReadLemmas.{ordered, header_fault}
use Rattle.causal_merge.proofs.merge.order_run.Goals as goal

pub returns-clause-ok : goal.returns-clause-ok
returns-clause-ok c = λ most text h. grind (arith, ordered)

pub returns-clause-few : goal.returns-clause-few
returns-clause-few c = c.in_ok-run.ensures.few c.requires.said.0 c.requires.said.1

pub returns-in_err-run-clause-err : goal.returns-in_err-run-clause-err
returns-in_err-run-clause-err c =
    let p = err_from_is_err_and c.from_residual.result c.from_residual.ensures.1 in
    rw (p.1, p.2) (λ most text h. header_fault most text c.args.gathered _ h c.in_err-run.ensures.err)
