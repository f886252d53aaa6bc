use Rattle.causal_audit.proofs.Common.{past_at}
use Rattle.causal_audit.specs.Inside.Index.RunIndexes.{IsBuilderOf}
use Rattle.causal_audit.proofs.index.transitions.Transitions.of.Given as goal

-- the transitions of the entries so far, and the down processes after these
abbrev pub invariant-loop-i : goal.invariant-loop-i
invariant-loop-i l = IsBuilderOf (past_at l.entries l.i) l.filing
