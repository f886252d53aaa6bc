use Rattle.std.proofs.Common.{◌≡◌, [], vec_len}
use Rattle.std.specs.Prelude.{replicate}
use Rattle.causal_replays.specs.Inside.Holdings.{lists_in}
use Rattle.causal_replays.proofs.slots.empty_process_lists.Given as goal

-- so many empty lists
abbrev pub invariant-loop : goal.invariant-loop
invariant-loop t l = record { count : vec_len l.lists ≡ l.counter; empty : lists_in l.lists.items ≡ replicate l.counter [] }
