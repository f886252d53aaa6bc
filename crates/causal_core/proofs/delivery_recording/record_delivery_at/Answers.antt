use Rattle.std.proofs.Common.{◌≡◌, ◌∙◌, ◌++◌, [], ap, arith, slice_get, slice_set, Some, subst, sym}
use Rattle.std.specs.Option.{option_map, option_map_or}
use Rattle.std.proofs.lemmas.List.{map-set}
use Rattle.causal_log.specs.Logs.{batch_items}
use Rattle.causal_memory.specs.DeliveryPlans.{log_after_plan}
use Rattle.causal_memory.specs.ProcessMemories.{memory_of, bodies_of}
use Rattle.causal_protocol.specs.Memory.{Memory}
use Rattle.causal_core.specs.Inside.DeliveryRecords.{IsLogDelivered, planned_entry, memory_after_step, with_step}
use Rattle.causal_core.specs.Inside.Memories.{memories_in, bodies_in}
use Rattle.causal_core.specs.Inside.MemoryInvariant.{MatchesEntriesAt}
use Rattle.causal_core.specs.View.{sent_bodies}
use Rattle.causal_core.proofs.Cells.{read_there, present_read, memory_read, bodies_read, capacity_read}
use Rattle.causal_core.proofs.MemoriesFit.{all_fit_set}
use Rattle.causal_core.proofs.delivery_recording.record_delivery_at.Goals as goal
use Rattle.causal_core.proofs.delivery_recording.record_delivery_at.Goals.{In-Some}

-- the memory of q is read
there : (c : In-Some) → slice_get c.args.process_memories.now.items c.args.q.0 ≡ Some (Some c.in-Some.process_memory)
there c = read_there c.args.process_memories.now.items c.args.q.0 c.from.result c.index_mut.result.now c.in-Some.process_memory c.requires.up c.from.ensures c.index_mut.ensures.value c.in-Some.is

pub record_delivery-requires : goal.record_delivery-requires
record_delivery-requires c =
    let at = (goal.at.record_delivery-requires c).In-Some in
    let ms = c.args.process_memories.now.items in
    let past = c.args.trace.now.recording.past in
    let grown = c.args.grown in
    let same = memory_read ms c.args.q.0 c.in-Some.process_memory (there at) in
    let room = capacity_read ms c.args.q.0 c.in-Some.process_memory (there at) in
    record {
      process = c.requires.process;
      legal = c.requires.legal;
      sent = c.requires.sent;
      fit = subst (MatchesEntriesAt past c.args.q.0) (present_read ms c.args.q.0 c.in-Some.process_memory (there at)) (c.requires.fit.each c.args.q.0 c.requires.process);
      logged = subst (λ (m : Memory). IsLogDelivered past (planned_entry c.args.q grown) (log_after_plan grown m.log)) same c.requires.logged;
      ascending = c.requires.ascending;
      delivered = c.requires.delivered;
      next = c.requires.next ∙ ap (λ (m : Memory). batch_items c.args.f (log_after_plan grown m.log)) same;
      few = c.requires.few;
      spare = c.requires.spare;
      room = omega (arith, c.requires.room, ap (λ k. k.sent) room);
      received = omega (arith, c.requires.received, ap (λ k. k.received) room);
      insertions = omega (arith, c.requires.insertions, ap (λ k. k.log) room);
      short = c.requires.short;
    }

pub returns-clause-recording : goal.returns-clause-recording
returns-clause-recording c =
    let at = (goal.at.returns-clause-recording c).In-Some in
    c.record_delivery.ensures.recording ∙ ap (with_step c.args.trace.now.recording c.args.q c.args.grown c.args.sends.items) (sym (memory_read c.args.process_memories.now.items c.args.q.0 c.in-Some.process_memory (there at)))

pub returns-clause-memories : goal.returns-clause-memories
returns-clause-memories c =
    let at = (goal.at.returns-clause-memories c).In-Some in
    let ms = memories_in c.args.process_memories.now.items in
    let after = memory_after_step c.args.trace.now.recording c.args.grown c.args.sends.items in
    map-set (option_map memory_of) c.args.process_memories.now.items c.from.result (Some c.record_delivery.new.process_memory)
    ∙ (λ i. slice_set ms (c.from.ensures i) (Some (c.record_delivery.ensures.memory i)))
    ∙ ap (λ m. slice_set ms c.args.q.0 (Some (after m))) (sym (memory_read c.args.process_memories.now.items c.args.q.0 c.in-Some.process_memory (there at)))

pub returns-clause-bodies : goal.returns-clause-bodies
returns-clause-bodies c =
    let at = (goal.at.returns-clause-bodies c).In-Some in
    let bodies = bodies_in c.args.process_memories.now.items in
    map-set (λ c. option_map_or bodies_of c []) c.args.process_memories.now.items c.from.result (Some c.record_delivery.new.process_memory)
    ∙ (λ i. slice_set bodies (c.from.ensures i) (c.record_delivery.ensures.bodies i))
    ∙ ap (λ b. slice_set bodies c.args.q.0 (b ++ sent_bodies c.args.trace.now.recording.processes c.args.sends.items)) (sym (bodies_read c.args.process_memories.now.items c.args.q.0 c.in-Some.process_memory (there at)))

pub returns-clause-fit : goal.returns-clause-fit
returns-clause-fit c =
    rw (c.from.ensures, map-set (option_map memory_of) c.args.process_memories.now.items c.args.q.0 (Some c.record_delivery.new.process_memory))
    (all_fit_set c.args.trace.now.recording.processes c.args.trace.now.recording.past c.record_delivery.new.trace.recording.past (memories_in c.args.process_memories.now.items) c.args.q.0 (Some (memory_of c.record_delivery.new.process_memory)) c.requires.process c.requires.fit c.record_delivery.ensures.others c.record_delivery.ensures.fit)
