use Rattle.std.proofs.Common.{◌≤◌, [], Some, OnOk, ap, subst, sym}
use Rattle.std.specs.Option.{option_map, option_map_or}
use Rattle.causal_memory.specs.ProcessMemories.{Capacity, memory_of, bodies_of}
use Rattle.causal_core.proofs.Cells.{capacity_written, kept_cells}
use Rattle.causal_core.proofs.delivery_recording.reserve_delivery_at.Goals as goal

pub returns-clause-memories : goal.returns-clause-memories
returns-clause-memories c = kept_cells (option_map memory_of) c.args.process_memories.now.items c.from.result c.index_mut.result.now c.in-Some.process_memory c.reserve_delivery.new.self c.index_mut.ensures.value c.in-Some.is (ap Some c.reserve_delivery.ensures.memory)

pub returns-clause-bodies : goal.returns-clause-bodies
returns-clause-bodies c = kept_cells (λ o. option_map_or bodies_of o []) c.args.process_memories.now.items c.from.result c.index_mut.result.now c.in-Some.process_memory c.reserve_delivery.new.self c.index_mut.ensures.value c.in-Some.is c.reserve_delivery.ensures.bodies

pub returns-clause-sent : goal.returns-clause-sent
returns-clause-sent c = subst (λ (k : Capacity). OnOk c.reserve_delivery.result (8 ≤ k.sent)) (sym (capacity_written c.args.process_memories.now.items c.args.q.0 c.from.result c.reserve_delivery.new.self c.requires c.from.ensures)) c.reserve_delivery.ensures.sent

pub returns-clause-received : goal.returns-clause-received
returns-clause-received c = subst (λ (k : Capacity). OnOk c.reserve_delivery.result (1 ≤ k.received)) (sym (capacity_written c.args.process_memories.now.items c.args.q.0 c.from.result c.reserve_delivery.new.self c.requires c.from.ensures)) c.reserve_delivery.ensures.received

pub returns-clause-log : goal.returns-clause-log
returns-clause-log c = subst (λ (k : Capacity). OnOk c.reserve_delivery.result (c.args.logged ≤ k.log)) (sym (capacity_written c.args.process_memories.now.items c.args.q.0 c.from.result c.reserve_delivery.new.self c.requires c.from.ensures)) c.reserve_delivery.ensures.log
