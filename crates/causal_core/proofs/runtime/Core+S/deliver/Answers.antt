use Rattle.std.proofs.Common.{arith, ◌≡◌, ◌∙◌, [], ap, refl, sym, subst}
use Rattle.causal_name.specs.Names.{message_of}
use Rattle.causal_log.specs.Slots.{first_of_slot}
use Rattle.causal_log.specs.Stores.{dets_in}
use Rattle.causal_protocol.specs.Run.{memories_of}
use Rattle.causal_protocol.specs.Runs.{SatisfiesInvariant}
use Rattle.causal_protocol.specs.declared.request.Reply.TheVariants as Replies
use Rattle.causal_protocol.proofs.Lemmas.KeptByType.{step_preserves}
use Rattle.causal_protocol.specs.Naming.{next_ssn}
use Rattle.causal_protocol.specs.Steps.{LegalStep}
use Rattle.causal_protocol.specs.declared.request.Request.TheVariants as Requests
use Rattle.causal_core.specs.View.{RunDataState, receivers}
use Rattle.causal_core.proofs.RunAfterStep.{store_is, box_there, delivery_alone, delivery_filled, delivery_stable}
use Rattle.causal_core.proofs.LegalDelivery.{allowed}
use Rattle.causal_core.proofs.runtime.Core+S.deliver.Goals as goal

pub prepare-requires : goal.prepare-requires
prepare-requires g c =
    c.least_of-stored.ensures
    ∙ (λ i. first_of_slot c.args.q (c.next_rsn-rsn.ensures i) (dets_in (store_is _ c.args.self.now.run_data.run.recording.past c.args.self.now.stored i)))

pub returns-in-Err-clause-step : goal.returns-in-Err-clause-step
unfolding LegalStep
returns-in-Err-clause-step g c = record { appended = []; grown = c.prepare.ensures.run; legal = (c.in-Err.ensures.refused, refl) }

pub step_with_message-requires-clause-box_there : goal.step_with_message-requires-clause-box_there
step_with_message-requires-clause-box_there g c =
    let up = (allowed c.args.self.now.run_data.run c.args.q c.args.source c.args.ssn c.in-Ok.ensures.legal).2 in
    box_there c.args.self.now.slots.items (memories_of c.args.self.now.run_data.run) c.args.q.0 c.args.self.now.filled up

pub invariant_of-self-in-Ok-step_with_message : goal.invariant_of-self-in-Ok-step_with_message
invariant_of-self-in-Ok-step_with_message g c =
    let r = c.args.self.now.run_data.run in
    let mid = c.step_with_message.new.self.run in
    let same : mid ≡ r = ap (λ (s : RunDataState). s.run) c.step_with_message.ensures.data ∙ c.prepare.ensures.run in
    let own = c.in-Ok.grown.own in
    let tos = receivers mid.recording.processes c.in-Ok-step_with_message.sends.items in
    record {
      filled = c.step_with_message.ensures.given.filled ∙ c.args.self.now.filled ∙ sym (delivery_filled r mid c.finish.new.self.run c.args.q own.source own.ssn (message_of own) (next_ssn (memories_of mid) c.args.q) tos same c.finish.ensures.run);
      stored = λ d. c.args.self.now.stored d ∙ sym (delivery_stable r mid c.finish.new.self.run c.args.q own.source own.ssn (message_of own) (next_ssn (memories_of mid) c.args.q) tos same c.finish.ensures.run d);
      cache_is_right = c.invalidate_except.ensures r c.finish.new.self.run c.args.self.now.cache_is_right (delivery_alone r mid c.finish.new.self.run c.args.q own.source own.ssn (message_of own) (next_ssn (memories_of mid) c.args.q) tos same c.finish.ensures.run);
      invariant_holds = step_preserves mid c.finish.new.self.run (Requests.Deliver c.args.q own.source own.ssn) (Replies.Delivered c.finish.result) c.finish.ensures.step (subst (λ x. ∥ SatisfiesInvariant x ∥₁) (sym same) c.args.self.now.invariant_holds);
    }

pub returns-in-Ok-step_with_message-clause-ok : goal.returns-in-Ok-step_with_message-clause-ok
returns-in-Ok-step_with_message-clause-ok g c = grind arith

pub returns-in-Err-step_with_message-clause-step : goal.returns-in-Err-step_with_message-clause-step
unfolding LegalStep
returns-in-Err-step_with_message-clause-step g c = record {
  appended = [];
  grown = ap (λ (s : RunDataState). s.run) c.step_with_message.ensures.data ∙ c.prepare.ensures.run;
  legal = (c.in-Ok.ensures.legal, refl);
}
