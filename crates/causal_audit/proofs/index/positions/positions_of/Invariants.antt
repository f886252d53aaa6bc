use Rattle.causal_trace.specs.State.{past_at}
use Rattle.causal_audit.specs.Numbers.{ArePositions}
use Rattle.causal_audit.proofs.index.positions.positions_of.Given as goal

-- the positions in the entries so far
abbrev pub invariant-loop-i : goal.invariant-loop-i
invariant-loop-i l = ArePositions (past_at l.entries l.i) l.positions.items
