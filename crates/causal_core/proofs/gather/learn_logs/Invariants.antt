use Rattle.std.proofs.Common.{◌≡◌, drop}
use Rattle.causal_protocol.specs.Gathering.{with_logs_of}
use Rattle.causal_core.specs.Inside.Memories.{memories_in}
use Rattle.causal_core.proofs.gather.learn_logs.Given as goal

abbrev pub invariant-loop-process_memory : goal.invariant-loop-process_memory
invariant-loop-process_memory l = with_logs_of (memories_in (drop l.process_memory-index l.process_memories)) l.log.map ≡ with_logs_of (memories_in l.process_memories) l.fn.log.map
