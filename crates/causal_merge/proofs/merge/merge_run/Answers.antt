use Rattle.std.proofs.Common.{arith}
use Rattle.std.proofs.lemmas.Result.{err_from_is_err_and}
use Rattle.causal_merge.proofs.ReadLemmas.{merges, event_fault}
use Rattle.causal_merge.proofs.merge.merge_run.Goals as goal

pub returns-clause-ok : goal.returns-clause-ok
returns-clause-ok c = λ text h. grind (arith, merges)

pub returns-in_err-trace-clause-err : goal.returns-in_err-trace-clause-err
returns-in_err-trace-clause-err c = grind (arith, err_from_is_err_and, event_fault)
