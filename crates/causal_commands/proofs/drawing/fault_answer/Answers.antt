use Rattle.std.proofs.Common.{sym, subst}
use Rattle.causal_outcomes.specs.declared.ended.Ended.{Ended}
use Rattle.causal_commands.specs.Drawings.{IsDrawingAnswer}
use Rattle.causal_commands.proofs.Refusals.{first_fault, true_refusal}
use Rattle.causal_commands.proofs.drawing.fault_answer.Goals as goal

pub returns-in-Ok-clause-ok : goal.returns-in-Ok-clause-ok
returns-in-Ok-clause-ok c = λ most selection text f told.
    let is = c.in-Ok.ensures.ok in
    let first = first_fault most text c.args.unjudged c.in-Ok.response is told in
    subst (λ (e : Ended). IsDrawingAnswer most selection text f e c.new.result.items) (sym is.ended) (first.0, first.1, c.new.ensures.items)

pub returns-in-Ok-clause-rejected : goal.returns-in-Ok-clause-rejected
returns-in-Ok-clause-rejected c = λ most text told. true_refusal most text c.args.unjudged c.in-Ok.response c.in-Ok.ensures.ok told
