use Rattle.std.proofs.Common.{◌∙◌, [], refl, ap, sym, subst, arith, length, is_some, true, slice_set}
use Rattle.std.proofs.lemmas.Grind.{common_steps}
use Rattle.std.proofs.lemmas.List.{length-map}
use Rattle.causal_protocol.specs.declared.request.Request.TheVariants as Requests
use Rattle.causal_protocol.specs.declared.request.Reply.TheVariants as Replies
use Rattle.causal_protocol.specs.Run.{memories_of}
use Rattle.causal_protocol.specs.Refusals.{restart_list}
use Rattle.causal_protocol.specs.Runs.{SatisfiesInvariant}
use Rattle.causal_protocol.specs.Steps.{LegalStep}
use Rattle.causal_protocol.proofs.Lemmas.KeptByType.{step_preserves}
use Rattle.causal_core.specs.View.{receivers}
use Rattle.causal_core.proofs.RunAfterStep.{memories_count, restarted_alone}
use Rattle.causal_core.proofs.RuntimeRestart.{restart_below, restart_filled, restart_stable}
use Rattle.causal_core.proofs.restart.Core+S.restart.Goals as goal

pub returns-in-Err-clause-step : goal.returns-in-Err-clause-step
unfolding LegalStep
returns-in-Err-clause-step g c = record { appended = []; grown = c.prepare_restart.ensures.run; legal = (c.in-Err.ensures.refused, refl) }

pub put_box-requires : goal.put_box-requires
put_box-requires g c =
    let r = c.args.self.now.run_data.run in
    let below = restart_below r c.args.p c.in-Ok.ensures.legal in
    let count = memories_count r.recording.processes r.faults r.writers r.recording.past in
    let one = ap length c.args.self.now.filled in
    let a = length-map c.args.self.now.slots.items is_some in
    let b = length-map (memories_of r) is_some in
    grind (arith, common_steps, below, count, one, a, b, c.from.ensures)

pub invariant_of-self-in-Ok-begin_box : goal.invariant_of-self-in-Ok-begin_box
invariant_of-self-in-Ok-begin_box g c =
    let r = c.args.self.now.run_data.run in
    let mid = c.prepare_restart.new.self.run in
    let next = c.finish_restart.new.self.run in
    let p = c.args.p in
    let tos = receivers mid.recording.processes c.in-Ok-begin_box.sends.items in
    let bits = rw c.from.ensures at c.put_box.ensures.filled in
    record {
      filled = bits ∙ ap (λ xs. slice_set xs p.0 true) c.args.self.now.filled ∙ sym (restart_filled r mid next p (restart_list mid p) tos c.prepare_restart.ensures.run c.finish_restart.ensures.run);
      stored = λ d. c.args.self.now.stored d ∙ sym (restart_stable r mid next p (restart_list mid p) tos c.prepare_restart.ensures.run c.finish_restart.ensures.run d);
      cache_is_right = c.invalidate_except.ensures mid next c.prepare_restart.ensures.cache_is_right (restarted_alone mid mid next p (restart_list mid p) tos refl c.finish_restart.ensures.run);
      invariant_holds =
          step_preserves mid next (Requests.Restart p) (Replies.Restarted c.finish_restart.result) c.finish_restart.ensures.step
          (subst (λ x. ∥ SatisfiesInvariant x ∥₁) (sym c.prepare_restart.ensures.run) c.args.self.now.invariant_holds);
    }

pub returns-in-Ok-begin_box-clause-ok : goal.returns-in-Ok-begin_box-clause-ok
returns-in-Ok-begin_box-clause-ok g c = grind arith

pub returns-in-Err-begin_box-clause-step : goal.returns-in-Err-begin_box-clause-step
unfolding LegalStep
returns-in-Err-begin_box-clause-step g c = record { appended = []; grown = c.prepare_restart.ensures.run; legal = (c.in-Ok.ensures.legal, refl) }
