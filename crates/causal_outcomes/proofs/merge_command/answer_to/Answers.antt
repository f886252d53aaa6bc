use Rattle.std.proofs.Common.{◌∙◌, ap, sym}
use Rattle.std.proofs.lemmas.Result.{IfOk-weaker}
use Rattle.causal_outcomes.specs.declared.merge_command.Mapping.{Mapping}
use Rattle.causal_outcomes.specs.Merges.{returned_origins}
use Rattle.causal_outcomes.proofs.merge_command.answer_to.Goals as goal

pub returns-in-Ok-clause-ok : goal.returns-in-Ok-clause-ok
returns-in-Ok-clause-ok g c =
    let merges = c.in-Ok.ensures.ok in
    let none = c.new.ensures.items ∙ sym (ap (λ (mapping : Mapping). returned_origins mapping merges.0) c.in-Unmapped.is) in
    IfOk-weaker c.trace_answer.result _ _ (λ answer h. h c.args.limits.entries c.args.mapping c.args.text.now merges.0 merges.1 none) c.trace_answer.ensures.ok
