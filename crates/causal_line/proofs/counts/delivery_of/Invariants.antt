use Rattle.std.proofs.Common.{◌≡◌}
use Rattle.std.specs.Prelude.{reverse}
use Rattle.causal_trace.specs.State.{past_at}
use Rattle.causal_line.specs.Deliveries.{delivery_position}
use Rattle.causal_line.proofs.counts.delivery_of.Given as goal

-- the value after the entries so far
abbrev pub invariant-loop-i : goal.invariant-loop-i
invariant-loop-i l = l.found ≡ delivery_position (past_at (reverse l.trace.recording.past) l.i) l.p.0 l.message
