use Rattle.std.proofs.lemmas.Result.{IfOk-weaker}
use Rattle.causal_outcomes.specs.Merges.{bytes_read}
use Rattle.causal_outcomes.proofs.Lemmas.Known.{IfSome-weaker}
use Rattle.causal_commands.proofs.Writing.{known_all}
use Rattle.causal_commands.proofs.mapped_reason.mapped_answer.Goals as goal

pub returns-in-Err-clause-ok : goal.returns-in-Err-clause-ok
returns-in-Err-clause-ok g c =
    let most = c.args.limits.entries in
    IfOk-weaker c.fault_answer.result _ _
    (λ given is. IfSome-weaker (g.I.Read.remaining c.args.input.now) _ _
    (λ text explains. known_all (g.M.Read.remaining c.args.map.now) _ (λ map. is most text (bytes_read most map) c.args.f explains)) c.in-Err.ensures.err)
    c.fault_answer.ensures.ok

pub returns-in-Err-clause-rejected : goal.returns-in-Err-clause-rejected
returns-in-Err-clause-rejected g c =
    IfOk-weaker c.fault_answer.result _ _
    (λ given is. IfSome-weaker (g.I.Read.remaining c.args.input.now) _ _ (λ text explains. is c.args.limits.entries text explains) c.in-Err.ensures.err)
    c.fault_answer.ensures.rejected
