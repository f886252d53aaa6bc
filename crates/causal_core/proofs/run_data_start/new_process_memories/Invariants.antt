use Rattle.std.proofs.Common.{◌≡◌, [], replicate, Some}
use Rattle.std.specs.FinMap as fin
use Rattle.causal_protocol.specs.Memory.{new_memory}
use Rattle.causal_core.specs.Inside.Memories.{memories_in, bodies_in}
use Rattle.causal_core.proofs.run_data_start.new_process_memories.Given as goal

abbrev pub invariant-loop-i : goal.invariant-loop-i
invariant-loop-i l = record {
  memories : memories_in l.process_memories.items ≡ replicate l.i (Some (new_memory fin.empty));
  bodies : bodies_in l.process_memories.items ≡ replicate l.i [];
}
