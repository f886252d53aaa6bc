use Rattle.std.proofs.Common.{◌≡◌, ◌∙◌, Some, None, ap, sym, arith, true≢false}
use Rattle.std.specs.Prelude.{is_some}
use Rattle.std.specs.Option.{option_map, option_copied}
use Rattle.std.proofs.lemmas.Grind.{common_steps}
use Rattle.causal_trace.proofs.Lemmas.WellFormed.{formed_short}
use Rattle.causal_protocol.specs.declared.request.Request.TheVariants as Requests
use Rattle.causal_protocol.specs.Memory.{present_at}
use Rattle.causal_protocol.specs.Naming.{message_name, sent_message_for}
use Rattle.causal_protocol.specs.Refusals.{request_fault}
use Rattle.causal_protocol.specs.Run.{Run}
use Rattle.causal_core.specs.View.{run_from}
use Rattle.causal_core.specs.Inside.Memories.{memories_in}
use Rattle.causal_memory.specs.ProcessMemories.{memory_of}
use Rattle.causal_memory.specs.Outboxes.{kept_message_of}
use Rattle.causal_core.proofs.Cells.{received_few}
use Rattle.causal_core.proofs.LegalDelivery.{allowed}
use Rattle.causal_core.proofs.run_data.RunData.delivery_plan_for.Goals as goal
use Rattle.causal_core.proofs.run_data.RunData.delivery_plan_for.Goals.{After-as_slice-process_memories, In-Some-process_memory_at}

abbrev run : After-as_slice-process_memories → Run
run c = run_from c.self.inside.trace.recording c.self.inside.faults c.self.inside.writers.items

none : (c : After-as_slice-process_memories) → request_fault (run c) (Requests.Deliver c.args.q c.args.source c.args.ssn) ≡ None
none c = ap (λ s. request_fault s.run (Requests.Deliver c.args.q c.args.source c.args.ssn)) c.self.view_is ∙ c.requires

pub unreachable-requires : goal.unreachable-requires
unreachable-requires c =
    let at0 = (goal.at.unreachable-requires c).After-as_slice-process_memories in
    let nothing : sent_message_for (memories_in c.self.inside.process_memories.items) c.args.q (message_name c.args.source c.args.ssn) ≡ None = ap (λ xs. sent_message_for (memories_in xs) c.args.q (message_name c.args.source c.args.ssn)) (sym c.as_slice-process_memories.ensures.value) ∙ sym c.kept_message.ensures ∙ ap (option_map kept_message_of) c.in_default.is in
    true≢false (sym (allowed (run at0) c.args.q c.args.source c.args.ssn (none at0)).3 ∙ ap (λ xs. is_some (sent_message_for xs c.args.q (message_name c.args.source c.args.ssn))) (sym c.self.invariant.same) ∙ ap is_some nothing)

pub unreachable-requires-in_default-process_memory_at : goal.unreachable-requires-in_default-process_memory_at
unreachable-requires-in_default-process_memory_at c =
    let at0 = (goal.at.unreachable-requires-in_default-process_memory_at c).After-as_slice-process_memories in
    let up = (allowed (run at0) c.args.q c.args.source c.args.ssn (none at0)).2 in
    grind (arith, up)

up : (c : In-Some-process_memory_at) → present_at (memories_in c.self.inside.process_memories.items) c.args.q.0 ≡ Some (memory_of c.in-Some-process_memory_at.process_memory.now)
up c = ap (λ xs. present_at (memories_in xs) c.args.q.0) (sym c.as_slice-process_memories.ensures.value) ∙ sym c.process_memory_at.ensures ∙ ap (λ o. option_map memory_of (option_copied o)) c.in-Some-process_memory_at.is

pub overflow_cast-own : goal.overflow_cast-own
overflow_cast-own c =
    let here = up (goal.at.overflow_cast-own c).In-Some-process_memory_at in
    let few = (received_few c.self.inside.trace.recording.processes c.self.inside.trace.recording.past (memories_in c.self.inside.process_memories.items) c.args.q.0 c.self.invariant.fit (formed_short _ c.self.invariant.formed).entries).1 in
    grind (arith, common_steps, here, few, c.len.ensures)
