use Rattle.std.proofs.Common.{[], ap, arith, length, slice_get, ◌≡◌, Some}
use Rattle.std.specs.Option.{option_map, option_map_or}
use Rattle.causal_memory.specs.ProcessMemories.{memory_of, bodies_of, capacity_of, no_capacity}
use Rattle.causal_core.proofs.Cells.{read_there, memory_read, bodies_read, kept_cells}
use Rattle.causal_core.proofs.message_step.step_with_message_at.Goals as goal
use Rattle.causal_core.proofs.message_step.step_with_message_at.Goals.{In-Some}

-- the memory of the sender is read
there : (g : _) (c : In-Some g) → slice_get c.args.process_memories.now.items c.args.source.0 ≡ Some (Some c.in-Some.process_memory)
there g c = read_there c.args.process_memories.now.items c.args.source.0 c.from.result c.index_mut.result.now c.in-Some.process_memory c.requires.up c.from.ensures c.index_mut.ensures.value c.in-Some.is

pub step_with_kept-requires : goal.step_with_kept-requires
step_with_kept-requires g c =
    let same = memory_read c.args.process_memories.now.items c.args.source.0 c.in-Some.process_memory (there g (goal.at.step_with_kept-requires g c).In-Some) in
    record { box_there = c.requires.box_there; kept = omega (arith, c.requires.kept, ap (λ m. length m.sent) same) }

pub returns-clause-given : goal.returns-clause-given
returns-clause-given g c =
    rw (bodies_read c.args.process_memories.now.items c.args.source.0 c.in-Some.process_memory (there g (goal.at.returns-clause-given g c).In-Some)) c.step_with_kept.ensures.given

pub returns-clause-memories : goal.returns-clause-memories
returns-clause-memories g c = kept_cells (option_map memory_of) c.args.process_memories.now.items c.from.result c.index_mut.result.now c.in-Some.process_memory c.step_with_kept.new.process_memory c.index_mut.ensures.value c.in-Some.is (ap Some c.step_with_kept.ensures.memory)

pub returns-clause-bodies : goal.returns-clause-bodies
returns-clause-bodies g c = kept_cells (λ o. option_map_or bodies_of o []) c.args.process_memories.now.items c.from.result c.index_mut.result.now c.in-Some.process_memory c.step_with_kept.new.process_memory c.index_mut.ensures.value c.in-Some.is c.step_with_kept.ensures.bodies

pub returns-clause-capacities : goal.returns-clause-capacities
returns-clause-capacities g c = kept_cells (λ o. option_map_or capacity_of o no_capacity) c.args.process_memories.now.items c.from.result c.index_mut.result.now c.in-Some.process_memory c.step_with_kept.new.process_memory c.index_mut.ensures.value c.in-Some.is c.step_with_kept.ensures.room
