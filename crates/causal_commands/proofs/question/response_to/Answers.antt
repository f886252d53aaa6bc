use Rattle.std.proofs.lemmas.Result.{IfOk-weaker}
use Rattle.causal_outcomes.proofs.Lemmas.Known.{IfSome-weaker}
use Rattle.causal_commands.proofs.Refusals.{explains, answers, true_refusal}
use Rattle.causal_commands.proofs.question.response_to.Goals as goal

pub returns-in-Err-clause-ok : goal.returns-in-Err-clause-ok
returns-in-Err-clause-ok g c =
    let most = c.args.limits.entries in
    IfOk-weaker c.fault_response.result _ _
    (λ response is. IfSome-weaker (g.I.Read.remaining c.args.input.now) _ _ (λ text told. answers most c.args.question text c.in-Err.unjudged response is told) c.in-Err.ensures.reads)
    c.fault_response.ensures.ok

pub returns-in-Err-clause-rejected : goal.returns-in-Err-clause-rejected
returns-in-Err-clause-rejected g c =
    let most = c.args.limits.entries in
    IfOk-weaker c.fault_response.result _ _
    (λ response is. IfSome-weaker (g.I.Read.remaining c.args.input.now) _ _
    (λ text told. true_refusal most text c.in-Err.unjudged response is (explains most c.args.question text c.in-Err.unjudged told)) c.in-Err.ensures.reads)
    c.fault_response.ensures.ok
