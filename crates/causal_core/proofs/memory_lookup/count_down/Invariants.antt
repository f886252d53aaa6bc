use Rattle.std.proofs.Common.{◌≡◌, take, count_by}
use Rattle.std.specs.Prelude.{is_none}
use Rattle.causal_core.specs.Inside.Memories.{memories_in}
use Rattle.causal_core.proofs.memory_lookup.count_down.Given as goal

abbrev pub invariant-loop-process_memory : goal.invariant-loop-process_memory
invariant-loop-process_memory l = l.down ≡ count_by is_none (memories_in (take l.process_memory-index l.process_memories))
