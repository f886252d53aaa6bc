-- Why `run` writes no trace for the text of a script.
use Rattle.std.specs.Prelude.{List, ℕ, Option, Some, None, IfSome}
use Rattle.causal_script.specs.declared.script.Script.{Script}
use Rattle.causal_script.specs.Spelling.{SpellsScript, script_content}
use Rattle.causal_script.specs.Faults.{IsFirstScriptFault}
use Rattle.causal_run.specs.declared.fault.RunFault.TheVariants as run_fault
use Rattle.causal_run.specs.Runs.{ExplainsRunFault}
use Rattle.causal_run.specs.Pending.{IsPendingBefore}
use Rattle.causal_run.specs.ScriptProcesses.{IsStartOf}
use Rattle.causal_runtime_commands.specs.Runs.{script_bytes_read}
use Rattle.causal_name.specs.declared.MsgName.{MsgName}
use Rattle.causal_protocol.specs.declared.request.CoreFault.TheVariants.{NotAvailable}
use Rattle.causal_run.specs.declared.fault.RunFault.{RunFault}
use Rattle.causal_runtime_commands.specs.declared.script.ScriptOutcome.{ScriptOutcome}
use Rattle.causal_runtime_commands.specs.declared.script.Reason.{Reason}
use Rattle.causal_runtime_commands.specs.declared.script.Reason.TheVariants as Why

-- the text is not a valid script, and this is its first error; or a refusal is that of the script's run, by its own
-- processes
abbrev pub IsScriptReason : List ℕ → Reason → Type 0
IsScriptReason text (Why.Script fault) = IsFirstScriptFault text fault
IsScriptReason text (Why.Run fault) = (script : Script) × SpellsScript text (script_content script) × ExplainsRunFault (IsStartOf script) script.commands fault

-- the returned reason, if any, is true of the bytes read from a reader, if its bytes are known
abbrev pub IsReasonFor : Option (List ℕ) → Option Reason → Type 0
IsReasonFor given told = IfSome given (λ text. IfSome told (IsScriptReason (script_bytes_read text)))

-- the number of the line with the error or the refused command; None if the run failed for another reason
abbrev pub reason_line : Reason → Option ℕ
reason_line (Why.Script fault) = Some fault.line
reason_line (Why.Run (run_fault.Refused line fault)) = Some line
reason_line (Why.Run _) = None

-- the messages are pending for the receiver of the delivery that was refused as `NotAvailable`
abbrev pub IsPendingAt : Script → RunFault → List MsgName → Type 0
IsPendingAt script (run_fault.Refused line NotAvailable) names = IsPendingBefore (IsStartOf script) script.commands line names
IsPendingAt script _ names = ⊥

-- the messages are pending in the run of the script that the text spells, where it was refused for this reason
abbrev pub ArePendingIn : List ℕ → Option Reason → List MsgName → Type 0
ArePendingIn text (Some (Why.Run fault)) names = (script : Script) × SpellsScript text (script_content script) × IsPendingAt script fault names
ArePendingIn text _ names = ⊥

-- the returned messages, if any, are pending in the run of the script in the bytes read from a reader, if its bytes are
-- known
abbrev pub ArePendingFor : Option (List ℕ) → ScriptOutcome → Type 0
ArePendingFor given outcome = IfSome given (λ text. IfSome outcome.pending (λ names. ArePendingIn (script_bytes_read text) outcome.fault names.items))
