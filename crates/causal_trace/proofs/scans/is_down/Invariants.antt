use Rattle.std.proofs.Common.{◌≡◌}
use Rattle.causal_trace.specs.State.{past_at}
use Rattle.causal_trace.specs.Past as past
use Rattle.causal_trace.proofs.scans.is_down.Given as goal

-- the value after the entries so far
abbrev pub invariant-loop-e : goal.invariant-loop-e
invariant-loop-e l = l.down ≡ past.is_down (past_at l.entries l.e-index) l.p.0
