use Rattle.std.specs.Prelude.{ℕ, ◌<◌, ◌≤◌, min, slice_index_or}
use Rattle.causal_audit.specs.declared.group.walk_input.OpenDelivery.{OpenDelivery}
use Rattle.causal_audit.proofs.group.walk_input.last_of.Given as goal

-- the last instant of the deliveries so far
abbrev pub invariant-loop-delivery : goal.invariant-loop-delivery
invariant-loop-delivery l = record {
  bound : l.last ≤ l.end;
  last : (i : ℕ) (delivery : OpenDelivery) → i < l.delivery-index → min (slice_index_or l.candidates i delivery).until l.end ≤ l.last;
}
