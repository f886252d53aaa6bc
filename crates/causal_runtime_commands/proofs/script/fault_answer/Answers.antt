use Rattle.std.proofs.Common.{◌≡◌, subst, sym, IfOk}
use Rattle.std.proofs.lemmas.Result.{IfOk-weaker}
use Rattle.causal_script.specs.Printing.{script_line}
use Rattle.std.specs.Prelude.{IfSome}
use Rattle.causal_runtime_commands.specs.Reasons.{IsScriptReason}
use Rattle.causal_runtime_commands.specs.Runs.{IsScriptAnswer}
use Rattle.causal_runtime_commands.proofs.script.fault_answer.Goals as goal

pub returns-in_default : goal.returns-in_default
returns-in_default c = record {
  ok = IfOk-weaker c.line_answer.result _ _ (λ answer h. λ text first.
      subst (λ e. IsScriptAnswer text e answer.text.items) (sym h.0)
      (c.args.fault, first c.in_default.not-NoMemory, subst (λ r. IfOk r (λ line. line.items ≡ script_line c.args.fault)) h.1 c.script_line.ensures)) c.line_answer.ensures.ok;
  reason = IfOk-weaker c.line_answer.result _ _ (λ answer h. λ text first. subst (λ r. IfSome r (IsScriptReason text)) (sym h) (first c.in_default.not-NoMemory)) c.line_answer.ensures.reason;
  pending = c.line_answer.ensures.pending;
  err = c.line_answer.ensures.err;
}
