use Rattle.std.proofs.Common.{ℕ, ◌≡◌, ◌<◌, ◌≤◌, Vec, Global, Option, map, get_or}
use Rattle.causal_trace.specs.Inside.Chains.{least_room}
use Rattle.causal_trace.proofs.Rooms.{room}
use Rattle.causal_trace.proofs.chains.reserve_each.Given as goal

-- the lists so far have the capacity, and none has less than before
abbrev pub invariant-loop-list : goal.invariant-loop-list
invariant-loop-list l = record {
  items : map (λ list. list.items) l.lists ≡ map (λ list. list.items) l.fn.lists;
  grown : (other : ℕ) → least_room l.fn.lists other ≤ least_room l.lists other;
  done : (k : ℕ) (d : Vec (Option ℕ) Global) → k < l.list-index → l.room ≤ room (get_or l.lists k d);
}
