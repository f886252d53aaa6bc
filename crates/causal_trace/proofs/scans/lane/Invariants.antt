use Rattle.std.proofs.Common.{◌≡◌, ◌≤◌}
use Rattle.causal_trace.specs.State.{past_at}
use Rattle.causal_trace.specs.Past as past
use Rattle.causal_trace.proofs.scans.lane.Given as goal

-- the value after the entries so far
abbrev pub invariant-loop-e : goal.invariant-loop-e
invariant-loop-e l = record { counted : l.lane ≡ past.lane (past_at l.entries l.e-index) l.p.0; few : l.lane ≤ l.e-index }
