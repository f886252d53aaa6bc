use Rattle.std.proofs.Common.{◌≡◌, subst, sym, IfOk}
use Rattle.std.proofs.lemmas.Result.{IfOk-weaker}
use Rattle.causal_script.specs.Printing.{refused_line}
use Rattle.causal_run.specs.Runs.{ExplainsRunFault}
use Rattle.causal_run.specs.ScriptProcesses.{IsStartOf}
use Rattle.std.specs.Prelude.{IfSome}
use Rattle.causal_runtime_commands.specs.Reasons.{IsScriptReason}
use Rattle.causal_runtime_commands.specs.Runs.{IsScriptAnswer}
use Rattle.causal_runtime_commands.proofs.script.refusal_answer.Goals as goal

pub returns-in-Refused-clause-ok : goal.returns-in-Refused-clause-ok
returns-in-Refused-clause-ok c =
    let line = c.in-Refused.line in
    let why = c.in-Refused.refusal in
    IfOk-weaker c.line_answer.result _ _ (λ answer h. λ text script spelled refused.
    subst (λ e. IsScriptAnswer text e answer.text.items) (sym h.0)
    (script, spelled, line, why, subst (λ f. ExplainsRunFault (IsStartOf script) script.commands f) c.in-Refused.is refused, subst (λ r. IfOk r (λ it. it.items ≡ refused_line line why)) h.1 c.refused_line.ensures)) c.line_answer.ensures.ok

pub returns-in-Refused-clause-reason : goal.returns-in-Refused-clause-reason
returns-in-Refused-clause-reason c =
    IfOk-weaker c.line_answer.result _ _ (λ answer h. λ text script spelled refused.
    subst (λ r. IfSome r (IsScriptReason text)) (sym h)
    (script, spelled, subst (λ f. ExplainsRunFault (IsStartOf script) script.commands f) c.in-Refused.is refused)) c.line_answer.ensures.reason
