use Rattle.std.proofs.Common.{◌+◌, ◌∙◌, ap, subst, take}
use Rattle.std.proofs.lemmas.Result.{IfOk-weaker}
use Rattle.causal_outcomes.specs.Inside.MergeOutcomes.{IsMerge}
use Rattle.causal_outcomes.specs.Merges.{HasExcerpt}
use Rattle.causal_outcomes.proofs.Lemmas.Known.{IfSome-weaker}
use Rattle.causal_outcomes.proofs.merge_command.answer_from.Goals as goal

pub returns-in-Ok-clause-ok : goal.returns-in-Ok-clause-ok
returns-in-Ok-clause-ok g c = IfOk-weaker c.answer_to.result _ _ (λ answer h.
    IfSome-weaker (g.I.Read.remaining c.args.input.now) _ _ (λ given same.
    subst (λ text. IsMerge c.args.limits.entries c.args.mapping text answer.merging answer.text.items) (c.as_slice.ensures.value ∙ same ∙ ap (λ n. take (n + 1) given) c.max_input_len.ensures.value) h) c.in-Ok.ensures.text) c.answer_to.ensures.ok

pub returns-in-Ok-clause-excerpt : goal.returns-in-Ok-clause-excerpt
returns-in-Ok-clause-excerpt g c = IfOk-weaker c.answer_to.result _ _ (λ answer h.
    IfSome-weaker (g.I.Read.remaining c.args.input.now) _ _ (λ given same.
    subst (λ text. HasExcerpt text answer.merging) (c.as_slice.ensures.value ∙ same ∙ ap (λ n. take (n + 1) given) c.max_input_len.ensures.value) h) c.in-Ok.ensures.text) c.answer_to.ensures.excerpt
