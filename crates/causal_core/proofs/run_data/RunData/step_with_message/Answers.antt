use Rattle.std.proofs.Common.{◌≡◌, ◌<◌, ◌∙◌, ap, true, length}
use Rattle.std.specs.Prelude.{is_some}
use Rattle.causal_protocol.specs.declared.request.Request.TheVariants as Requests
use Rattle.causal_protocol.specs.Memory.{present_at}
use Rattle.causal_protocol.specs.Naming.{message_name, sent_message_for}
use Rattle.causal_protocol.specs.Refusals.{request_fault}
use Rattle.causal_core.specs.View.{run_from}
use Rattle.causal_core.specs.Inside.Memories.{memories_in, memory_at}
use Rattle.causal_core.proofs.LegalDelivery.{allowed, sender_keeps}
use Rattle.causal_core.proofs.run_data.RunData.step_with_message.Goals as goal
use Rattle.causal_core.proofs.run_data.RunData.step_with_message.Goals.{After-self}

keeps : (g : _) (c : After-self g) → (is_some (present_at (memories_in c.self.inside.process_memories.items) c.args.source.0) ≡ true) × (c.args.ssn < length (memory_at (memories_in c.self.inside.process_memories.items) c.args.source.0).sent)
keeps g c =
    let r = run_from c.self.inside.trace.recording c.self.inside.faults c.self.inside.writers.items in
    let ms = memories_in c.self.inside.process_memories.items in
    sender_keeps ms c.args.q c.args.source c.args.ssn
    (ap (λ xs. is_some (sent_message_for xs c.args.q (message_name c.args.source c.args.ssn))) c.self.invariant.same
    ∙ (allowed r c.args.q c.args.source c.args.ssn (ap (λ s. request_fault s.run (Requests.Deliver c.args.q c.args.source c.args.ssn)) c.self.view_is ∙ c.requires.legal)).3)

pub step_with_message_at-requires-clause-up : goal.step_with_message_at-requires-clause-up
step_with_message_at-requires-clause-up g c = (keeps g (goal.at.step_with_message_at-requires-clause-up g c).After-self).0

pub step_with_message_at-requires-clause-kept : goal.step_with_message_at-requires-clause-kept
step_with_message_at-requires-clause-kept g c = (keeps g (goal.at.step_with_message_at-requires-clause-kept g c).After-self).1
