use Rattle.std.proofs.Common.{[]}
use Rattle.std.specs.Option.{option_map_or}
use Rattle.causal_memory.specs.ProcessMemories.{bodies_of, with_stable}
use Rattle.causal_core.proofs.Cells.{read_there, updated_cells, kept_cells}
use Rattle.causal_core.proofs.run_data.mark_det_stable_at.Goals as goal

pub returns-clause-memories : goal.returns-clause-memories
returns-clause-memories c =
    let there = read_there c.args.process_memories.now.items c.args.p.0 c.from.result c.index_mut.result.now c.in-Some.process_memory c.requires c.from.ensures c.index_mut.ensures.value c.in-Some.is in
    updated_cells c.args.process_memories.now.items c.args.p.0 c.in-Some.process_memory there (with_stable c.args.det) c.from.result c.mark_stable.new.self c.from.ensures c.mark_stable.ensures.memory

pub returns-clause-bodies : goal.returns-clause-bodies
returns-clause-bodies c = kept_cells (λ o. option_map_or bodies_of o []) c.args.process_memories.now.items c.from.result c.index_mut.result.now c.in-Some.process_memory c.mark_stable.new.self c.index_mut.ensures.value c.in-Some.is c.mark_stable.ensures.bodies
