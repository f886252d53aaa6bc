use Rattle.std.proofs.Common.{◌≡◌, subst, sym, IfOk}
use Rattle.std.proofs.lemmas.Result.{IfOk-weaker}
use Rattle.causal_lines.specs.Canonical.{canonical_text}
use Rattle.causal_runtime_commands.specs.Runs.{IsScriptAnswer}
use Rattle.causal_runtime_commands.proofs.PendingLemmas.{none_pending, pending_of_text}
use Rattle.causal_runtime_commands.proofs.script.answer_to.Goals as goal

pub returns-in-Err-clause-ok : goal.returns-in-Err-clause-ok
returns-in-Err-clause-ok g c = IfOk-weaker c.fault_answer.result _ _ (λ answer h. h c.args.text.now c.in-Err.ensures.err) c.fault_answer.ensures.ok

pub returns-in-Ok-run_script-clause-ok : goal.returns-in-Ok-run_script-clause-ok
returns-in-Ok-run_script-clause-ok g c =
    let trace = c.in-Ok-run_script.trace.recording in
    IfOk-weaker c.line_answer.result _ _ (λ answer h.
    subst (λ e. IsScriptAnswer c.args.text.now e answer.text.items) (sym h.0) (
      c.in-Ok.script,
      c.in-Ok.ensures.ok,
      trace,
      c.in-Ok-run_script.ensures.run,
      c.in-Ok-run_script.ensures.safe,
      subst (λ r. IfOk r (λ text. text.items ≡ canonical_text trace)) h.1 c.text_of.ensures,
    )) c.line_answer.ensures.ok

pub returns-clause-ok : goal.returns-clause-ok
returns-clause-ok g c =
    IfOk-weaker c.refused_answer.result _ _ (λ answer h. h c.args.text.now c.in-Ok.script c.in-Ok.ensures.ok c.in-Err-run_script.ensures.refused) c.refused_answer.ensures.ok

pub returns-clause-pending : goal.returns-clause-pending
returns-clause-pending g c =
    IfOk-weaker c.refused_answer.result _ _ (λ answer h. pending_of_text c.args.text.now c.in-Ok.script c.in-Err-run_script.fault answer.reason answer.pending (λ names. names.items) c.in-Ok.ensures.ok h) c.refused_answer.ensures.pending

pub returns-in-Ok-run_script-clause-pending : goal.returns-in-Ok-run_script-clause-pending
returns-in-Ok-run_script-clause-pending g c =
    IfOk-weaker c.line_answer.result _ _ (λ answer h. none_pending c.args.text.now answer.reason answer.pending (λ names. names.items) h) c.line_answer.ensures.pending

pub returns-in-Err-clause-pending : goal.returns-in-Err-clause-pending
returns-in-Err-clause-pending g c =
    IfOk-weaker c.fault_answer.result _ _ (λ answer h. none_pending c.args.text.now answer.reason answer.pending (λ names. names.items) h) c.fault_answer.ensures.pending
