use Rattle.causal_audit.proofs.Common.{◌≡◌, length, All, take}
use Rattle.std.specs.Prelude.{sum}
use Rattle.causal_audit.specs.declared.index.packed_lists.ListSpan.{ListSpan}
use Rattle.causal_audit.specs.Inside.Index.Packed.{ArePacked, list_capacities}
use Rattle.causal_audit.proofs.index.packed_lists.PackedListsBuilder.with_capacities.Given as goal

-- the lists so far are empty and have their capacities
abbrev pub invariant-loop-capacity : goal.invariant-loop-capacity
invariant-loop-capacity l = record {
  count : length l.spans.items ≡ l.capacity-index;
  begin : l.begin ≡ sum (take l.capacity-index l.capacities);
  empty : All (λ (s : ListSpan). s.begin ≡ s.end) l.spans.items;
  packed : ArePacked l.begin l.spans.items;
  capacities : list_capacities l.begin l.spans.items ≡ take l.capacity-index l.capacities;
}
