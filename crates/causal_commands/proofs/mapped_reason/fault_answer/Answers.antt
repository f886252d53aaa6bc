use Rattle.std.proofs.Common.{◌∙◌, sym, subst}
use Rattle.std.specs.Prelude.{None}
use Rattle.causal_outcomes.specs.declared.ended.Ended.{Ended}
use Rattle.causal_commands.specs.MappedReasons.{IsMappedAnswer}
use Rattle.causal_commands.proofs.Refusals.{first_fault, true_refusal}
use Rattle.causal_commands.proofs.mapped_reason.fault_answer.Goals as goal

pub returns-in-Ok-printed_answer-clause-ok : goal.returns-in-Ok-printed_answer-clause-ok
returns-in-Ok-printed_answer-clause-ok c = λ most text map f told.
    let answer = c.in-Ok-printed_answer.answer in
    let is = c.in-Ok.ensures.ok in
    subst (λ (e : Ended). IsMappedAnswer most text map f None e answer.line.items) (sym (c.in-Ok-printed_answer.ensures.ended ∙ is.ended))
    (c.in-Ok.response.answer, first_fault most text c.args.unjudged c.in-Ok.response is told, c.in-Ok-printed_answer.ensures.line)

pub returns-in-Ok-printed_answer-clause-rejected : goal.returns-in-Ok-printed_answer-clause-rejected
returns-in-Ok-printed_answer-clause-rejected c = λ most text told. rw c.in-Ok-printed_answer.ensures.rejected (true_refusal most text c.args.unjudged c.in-Ok.response c.in-Ok.ensures.ok told)
