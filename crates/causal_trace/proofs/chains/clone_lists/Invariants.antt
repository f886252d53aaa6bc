use Rattle.std.proofs.Common.{◌≡◌, map, take}
use Rattle.causal_trace.proofs.chains.clone_lists.Given as goal

abbrev pub invariant-loop-list : goal.invariant-loop-list
invariant-loop-list l = map (λ list. list.items) l.copied.items ≡ take l.list-index (map (λ list. list.items) l.lists)
