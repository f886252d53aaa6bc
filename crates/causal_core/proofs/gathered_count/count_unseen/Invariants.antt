use Rattle.std.proofs.Common.{◌≡◌, ◌≤◌, take, count_by}
use Rattle.std.specs.Map.{keys_of}
use Rattle.causal_core.specs.Inside.Memories.{memories_in}
use Rattle.causal_core.specs.Inside.Gathers.{is_unseen}
use Rattle.causal_core.proofs.gathered_count.count_unseen.Given as goal

abbrev pub invariant-loop-det : goal.invariant-loop-det
invariant-loop-det g l = record {
  value : l.count ≡ count_by (is_unseen (g.S.Stable.contents l.store) (memories_in l.process_memories)) (keys_of (take l.det-index l.entries));
  few : l.count ≤ l.det-index;
}
