use Rattle.std.specs.Prelude.{ℕ, ◌<◌, ◌≤◌, slice_index_or}
use Rattle.causal_audit.specs.declared.group.walk_input.OpenDelivery.{OpenDelivery}
use Rattle.causal_audit.specs.Inside.Group.Walk.{IsUntouchedBefore}
use Rattle.causal_audit.proofs.group.walk_input.WalkInput.start_of.Given as goal

-- the first position that matters to the deliveries so far
abbrev pub invariant-loop-delivery : goal.invariant-loop-delivery
invariant-loop-delivery l = record {
  bound : l.first ≤ l.bound;
  first : (i : ℕ) (delivery : OpenDelivery) → i < l.delivery-index → IsUntouchedBefore l.self.run.past l.first (slice_index_or l.candidates i delivery);
}
