use Rattle.std.proofs.Common.{◌≡◌, ◌∙◌, ap, arith, sym, None}
use Rattle.causal_protocol.specs.declared.request.Request.TheVariants as Requests
use Rattle.causal_protocol.specs.Refusals.{request_fault, dets_to_forget}
use Rattle.causal_core.specs.View.{run_from}
use Rattle.causal_core.specs.Inside.Memories.{memories_in}
use Rattle.causal_core.proofs.MemoriesFit.{held_fit}
use Rattle.causal_core.proofs.Forgotten.{forgotten_held, forget_few, forget_legal}
use Rattle.causal_core.proofs.run_data.RunData.record_forget.Goals as goal

pub overflow_cast-count : goal.overflow_cast-count
overflow_cast-count c = grind (arith, forget_few)

pub push_reserved-requires-clause-legal : goal.push_reserved-requires-clause-legal
push_reserved-requires-clause-legal c = grind (arith, held_fit, forget_legal)

pub invariant_of-self : goal.invariant_of-self
invariant_of-self c =
    let r = run_from c.self.inside.trace.recording c.self.inside.faults c.self.inside.writers.items in
    let none : request_fault r (Requests.Forget c.args.p) ≡ None = ap (λ s. request_fault s.run (Requests.Forget c.args.p)) c.self.view_is ∙ c.requires.legal in
    let listed : c.args.listed.items ≡ dets_to_forget r c.args.p = c.requires.listed ∙ sym (ap (λ s. dets_to_forget s.run c.args.p) c.self.view_is) in
    let legal = forget_legal r c.args.p c.args.listed.items (held_fit r (memories_in c.self.inside.process_memories.items) c.self.invariant) none listed c.requires.some in
    rw (c.drop_stable_at.ensures.memories, c.push_reserved.ensures.recording, c.new.ensures)
    (forgotten_held r (memories_in c.self.inside.process_memories.items) c.args.p c.args.listed.items c.self.invariant legal.0 listed legal.1)
