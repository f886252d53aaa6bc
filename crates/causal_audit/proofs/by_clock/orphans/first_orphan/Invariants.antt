use Rattle.causal_audit.proofs.Common.{ℕ, ◌≤◌, instant, HasOrphan}
use Rattle.causal_audit.specs.Inside.PositionLists.{IsCursor}
use Rattle.causal_audit.specs.Inside.DeliveryStates.{IsDeliveryState}
use Rattle.causal_audit.proofs.by_clock.orphans.first_orphan.Given as goal

-- the state is that of this instant, and the delivery has had no orphan so far
abbrev pub invariant-loop-t : goal.invariant-loop-t
invariant-loop-t l = record {
  ahead : IsCursor l.mentions l.t l.ahead;
  state : IsDeliveryState (instant l.trace.recording.past l.t) l.k l.fn.det l.state;
  before : (u : ℕ) → u ≤ l.t → HasOrphan l.trace.recording.processes l.f (instant l.trace.recording.past u) l.k → ⊥;
}
