-- The reason that `run` returns with the line of an error or of a refused command.
use Rattle.std.specs.Prelude.{◌≢◌, List, ℕ, Option, IfSome}
use Rattle.causal_script.specs.declared.script.Script.{Script}
use Rattle.causal_script.specs.declared.script.ScriptFault.{ScriptFault}
use Rattle.causal_script.specs.declared.script.ScriptFaultKind.TheVariants as kind
use Rattle.causal_script.specs.Spelling.{SpellsScript, script_content}
use Rattle.causal_script.specs.Faults.{IsFirstScriptFault}
use Rattle.causal_run.specs.declared.fault.RunFault.{RunFault}
use Rattle.causal_run.specs.Runs.{ExplainsRunFault}
use Rattle.causal_run.specs.ScriptProcesses.{IsStartOf}
use Rattle.causal_runtime_commands.specs.declared.script.Reason.{Reason}
use Rattle.causal_runtime_commands.specs.Reasons.{IsScriptReason}

-- the reason, if any, is true of each text whose first error this is; of any text if the error is `NoMemory`
abbrev pub IsFaultReason : ScriptFault → Option Reason → Type 0
IsFaultReason fault told = (text : List ℕ) → (fault.kind ≢ kind.NoMemory → IsFirstScriptFault text fault) → IfSome told (IsScriptReason text)

-- the reason, if any, is true of each script of whose run this fault is true
abbrev pub IsRefusalReason : RunFault → Option Reason → Type 0
IsRefusalReason fault told = (text : List ℕ) (script : Script) → SpellsScript text (script_content script)
    → ExplainsRunFault (IsStartOf script) script.commands fault → IfSome told (IsScriptReason text)
