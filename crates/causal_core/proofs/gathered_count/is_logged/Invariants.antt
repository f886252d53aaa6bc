use Rattle.std.proofs.Common.{◌≡◌, drop}
use Rattle.causal_core.specs.Inside.Memories.{memories_in}
use Rattle.causal_core.specs.Inside.Gathers.{is_logged}
use Rattle.causal_core.proofs.gathered_count.is_logged.Given as goal

abbrev pub invariant-loop-process_memory : goal.invariant-loop-process_memory
invariant-loop-process_memory l = is_logged (memories_in (drop l.process_memory-index l.process_memories)) l.det ≡ is_logged (memories_in l.process_memories) l.det
