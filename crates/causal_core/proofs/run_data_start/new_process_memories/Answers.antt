use Rattle.std.proofs.Common.{◌∙◌, ◌++◌, ◌∷◌, [], Some, ap}
use Rattle.std.specs.FinMap as fin
use Rattle.std.specs.Option.{option_map, option_map_or}
use Rattle.std.proofs.lemmas.List.{map-append, replicate-append-replicate}
use Rattle.causal_protocol.specs.Memory.{new_memory}
use Rattle.causal_memory.specs.ProcessMemories.{memory_of, bodies_of}
use Rattle.causal_core.specs.Inside.Memories.{memories_in, bodies_in}
use Rattle.causal_core.proofs.run_data_start.new_process_memories.Goals as goal

pub loop-i-preserved : goal.loop-i-preserved
loop-i-preserved c = let pushed = c.in_ok-push.ensures.items in
    let inv = c.loop-i.invariant in
    record {
      memories =
          ap memories_in pushed
          ∙ map-append (option_map memory_of) c.loop-i.process_memories.items _
          ∙ (λ j. inv.memories j ++ Some (record { log = c.with_seed-log.ensures j; sent = c.new-sent.ensures.kept j; received = c.new-received.ensures.items j }) ∷ [])
          ∙ replicate-append-replicate c.loop-i.i 1 (Some (new_memory fin.empty));
      bodies =
          ap bodies_in pushed
          ∙ map-append (λ process_memory. option_map_or bodies_of process_memory []) c.loop-i.process_memories.items _
          ∙ (λ j. inv.bodies j ++ c.new-sent.ensures.bodies j ∷ [])
          ∙ replicate-append-replicate c.loop-i.i 1 [];
    }
