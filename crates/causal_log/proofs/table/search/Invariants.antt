use Rattle.causal_log.proofs.TableLemmas.{IsAbsentBelow}
use Rattle.causal_log.proofs.table.search.Given as goal

abbrev pub invariant-loop-number : goal.invariant-loop-number
invariant-loop-number l = IsAbsentBelow l.entries.entries l.det l.number
