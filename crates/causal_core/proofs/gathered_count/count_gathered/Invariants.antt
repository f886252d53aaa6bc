use Rattle.std.proofs.Common.{◌≡◌, ◌≤◌, ◌+◌, ◌*◌, take}
use Rattle.causal_log.specs.Stores.{count_in}
use Rattle.causal_core.specs.Inside.Memories.{memories_in}
use Rattle.causal_core.proofs.RestartCounts.{count_all}
use Rattle.causal_core.proofs.gathered_count.count_gathered.Given as goal

abbrev pub invariant-loop-i : goal.invariant-loop-i
invariant-loop-i g l = record {
  value : l.count ≡ count_all (memories_in (take l.i l.process_memories)) (g.S.Stable.contents l.store);
  few : l.count ≤ count_in (g.S.Stable.contents l.store) + l.i * 4294967296;
}
