-- The order in which the events of a run are merged.
use Rattle.std.specs.Prelude.{List, IsPermutation}
use Rattle.std.specs.Ordering.{nat_cmp, ordering_then}
use Rattle.std.specs.List.Sorted.{IsSorted}
use Rattle.std.specs.declared.cmp.Ordering.{Ordering}
use Rattle.causal_merge.specs.declared.event.EventAtLine.{EventAtLine}

-- by clock, then process, then line of the input
abbrev pub placed_cmp : EventAtLine → EventAtLine → Ordering
placed_cmp a b =
    ordering_then (ordering_then (nat_cmp a.event.clock b.event.clock) (nat_cmp a.event.process.0 b.event.process.0)) (nat_cmp a.line b.line)

-- the same events, sorted into the merge order
pub record IsMergedOrder (events order : List EventAtLine) : Type 0 where
  pub same : IsPermutation events order
  pub ascends : IsSorted placed_cmp order
