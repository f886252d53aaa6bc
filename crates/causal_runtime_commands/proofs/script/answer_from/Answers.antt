use Rattle.std.proofs.Common.{◌∙◌, subst}
use Rattle.std.specs.Prelude.{IfSome}
use Rattle.std.proofs.lemmas.Result.{IfOk-weaker}
use Rattle.causal_runtime_commands.specs.Reasons.{IsScriptReason, ArePendingIn}
use Rattle.causal_runtime_commands.specs.Runs.{IsScriptAnswer}
use Rattle.causal_outcomes.proofs.Lemmas.Known.{IfSome-weaker}
use Rattle.causal_runtime_commands.proofs.script.answer_from.Goals as goal

pub returns-in-Ok-clause-ok : goal.returns-in-Ok-clause-ok
returns-in-Ok-clause-ok g c = IfOk-weaker c.answer_to.result _ _ (λ answer h.
    IfSome-weaker (g.I.Read.remaining c.args.input.now) _ _ (λ given same.
    subst (λ text. IsScriptAnswer text answer.ended answer.text.items) (c.as_slice.ensures.value ∙ same) h) c.in-Ok.ensures.text) c.answer_to.ensures.ok

pub returns-in-Ok-clause-reason : goal.returns-in-Ok-clause-reason
returns-in-Ok-clause-reason g c = IfOk-weaker c.answer_to.result _ _ (λ answer h.
    IfSome-weaker (g.I.Read.remaining c.args.input.now) _ _ (λ given same.
    subst (λ text. IfSome answer.reason (IsScriptReason text)) (c.as_slice.ensures.value ∙ same) h) c.in-Ok.ensures.text) c.answer_to.ensures.reason

pub returns-in-Ok-clause-pending : goal.returns-in-Ok-clause-pending
returns-in-Ok-clause-pending g c = IfOk-weaker c.answer_to.result _ _ (λ answer h.
    IfSome-weaker (g.I.Read.remaining c.args.input.now) _ _ (λ given same.
    subst (λ text. IfSome answer.pending (λ names. ArePendingIn text answer.reason names.items)) (c.as_slice.ensures.value ∙ same) h) c.in-Ok.ensures.text) c.answer_to.ensures.pending
