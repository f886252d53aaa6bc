use Rattle.causal_log.proofs.TableLemmas.{IsLeastBelow}
use Rattle.causal_log.proofs.table.least_of_slot.Given as goal

abbrev pub invariant-loop-number : goal.invariant-loop-number
invariant-loop-number l = IsLeastBelow l.entries.entries l.slot l.number l.least
