use Rattle.std.proofs.lemmas.Result.{IfOk-weaker}
use Rattle.causal_outcomes.specs.declared.ended.Ended.{Ended}
use Rattle.causal_commands.specs.Drawings.{IsDrawingAnswer}
use Rattle.causal_outcomes.proofs.Lemmas.Known.{IfSome-weaker}
use Rattle.causal_commands.proofs.VerdictEndings.{by_verdict}
use Rattle.causal_commands.proofs.drawing.drawing_answer.Goals as goal

pub returns-in-Ok-draw_trace-clause-ok : goal.returns-in-Ok-draw_trace-clause-ok
returns-in-Ok-draw_trace-clause-ok g c =
    let drawn = c.in-Ok-draw_trace.drawn in
    IfSome-weaker (g.I.Read.remaining c.args.input.now) _ _
    (λ text spells.
    let is = c.in-Ok-draw_trace.ensures c.args.limits.entries text spells in
    by_verdict (λ (e : Ended). IsDrawingAnswer c.args.limits.entries c.args.selection text c.args.f e drawn.picture.items) drawn.judged.verdict c.ended_of.result c.ended_of.ensures.accepted c.ended_of.ensures.breached
    (λ accept. (drawn.judged, is, accept)) (λ breach. (drawn.judged, is, breach))) c.in-Ok.ensures.ok

pub returns-in-Err-clause-ok : goal.returns-in-Err-clause-ok
returns-in-Err-clause-ok g c =
    IfOk-weaker c.fault_answer.result _ _
    (λ answer is. IfSome-weaker (g.I.Read.remaining c.args.input.now) _ _ (λ text told. is c.args.limits.entries c.args.selection text c.args.f told) c.in-Err.ensures.err)
    c.fault_answer.ensures.ok

pub returns-in-Err-clause-rejected : goal.returns-in-Err-clause-rejected
returns-in-Err-clause-rejected g c =
    IfOk-weaker c.fault_answer.result _ _
    (λ answer is. IfSome-weaker (g.I.Read.remaining c.args.input.now) _ _ (λ text told. is c.args.limits.entries text told) c.in-Err.ensures.err)
    c.fault_answer.ensures.rejected
