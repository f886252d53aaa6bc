use Rattle.causal_audit.proofs.Common.{◌≡◌, ◌++◌, List, All}
use Rattle.std.specs.Slice.Iter.{chunks_rest, chunks_size}
use Rattle.causal_audit.specs.Inside.Among.{EarliestAmongBy}
use Rattle.causal_audit.specs.Inside.Group.Walk.{HasBuffers}
use Rattle.causal_audit.specs.declared.group.walk_input.OpenDelivery.{OpenDelivery}
use Rattle.causal_audit.specs.Inside.Group.OpenDeliveries.{IsDeliveryAt, IsOpenDelivery, positions_of}
use Rattle.causal_audit.proofs.group.walk_input.WalkInput.earliest_over_groups.Given as goal

-- the earliest breach of the groups so far
abbrev pub invariant-loop-group : goal.invariant-loop-group
invariant-loop-group l = record {
  next : goal.iterator-loop-group.can_next l.group-iterator;
  finite : goal.iterator-loop-group.is_finite l.group-iterator;
  size : chunks_size l.group-iterator ≡ 256;
  deliveries : All (λ (delivery : OpenDelivery). IsDeliveryAt l.self.run.past delivery.position) (chunks_rest l.group-iterator);
  none_later : All (IsOpenDelivery l.self.run l.f l.end) (chunks_rest l.group-iterator);
  buffers : HasBuffers l.buffers;
  least : (done : List OpenDelivery) × (done ++ chunks_rest l.group-iterator ≡ l.candidates) × EarliestAmongBy l.self.run l.f l.end (positions_of done) l.least;
}
