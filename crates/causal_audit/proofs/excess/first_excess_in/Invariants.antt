use Rattle.causal_audit.proofs.Common.{ℕ, ◌≤◌, count_below, instant, is_down}
use Rattle.causal_audit.specs.Inside.DeliveryStates.{HasExactly}
use Rattle.causal_audit.proofs.excess.first_excess_in.Given as goal

-- the down processes at this instant, and at most f were down at each instant so far
abbrev pub invariant-loop-t : goal.invariant-loop-t
invariant-loop-t l = record {
  down : HasExactly l.down (λ p. is_down (instant l.trace.recording.past l.t) p);
  before : (u : ℕ) → u ≤ l.t → count_below l.trace.recording.processes (is_down (instant l.trace.recording.past u)) ≤ l.f;
}
