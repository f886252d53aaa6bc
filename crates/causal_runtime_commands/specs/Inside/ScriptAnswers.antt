-- The answer to a script's text, before it is written.
use Rattle.std.specs.Prelude.{◌≢◌, ℕ, List, Option, IfSome, ⊤}
use Rattle.causal_script.specs.declared.script.Script.{Script}
use Rattle.causal_script.specs.declared.script.ScriptFault.{ScriptFault}
use Rattle.causal_script.specs.Spelling.{SpellsScript, script_content}
use Rattle.causal_script.specs.Faults.{IsFirstScriptFault}
use Rattle.causal_script.specs.declared.script.ScriptFaultKind.TheVariants as kind
use Rattle.causal_run.specs.declared.fault.RunFault.{RunFault}
use Rattle.causal_run.specs.Runs.{ExplainsRunFault}
use Rattle.causal_run.specs.ScriptProcesses.{IsStartOf}
use Rattle.causal_outcomes.specs.declared.ended.Ended.{Ended}
use Rattle.causal_outcomes.specs.declared.ended.Ended.TheVariants.{ReadFault, NoMemory, FinishFault}
use Rattle.causal_runtime_commands.specs.Reasons.{ArePendingIn}
use Rattle.causal_runtime_commands.specs.Runs.{IsScriptAnswer, script_bytes_read}
use Rattle.causal_runtime_commands.specs.declared.script.ScriptAnswer.{ScriptAnswer}

-- the answer to the bytes read from a reader, if its bytes are known
abbrev pub IsPrintedFor : Option (List ℕ) → Ended → List ℕ → Type 0
IsPrintedFor given ended out = IfSome given (λ text. IsScriptAnswer (script_bytes_read text) ended out)

-- the answer to each text whose first error this is; to any text if the error is `NoMemory`
abbrev pub IsScriptFaultAnswer : ScriptFault → Ended → List ℕ → Type 0
IsScriptFaultAnswer fault ended out = (text : List ℕ) → (fault.kind ≢ kind.NoMemory → IsFirstScriptFault text fault) → IsScriptAnswer text ended out

-- the answer to the text of each script of whose run this fault is true
abbrev pub IsRefusalAnswer : RunFault → Ended → List ℕ → Type 0
IsRefusalAnswer fault ended out = (text : List ℕ) (script : Script) → SpellsScript text (script_content script)
    → ExplainsRunFault (IsStartOf script) script.commands fault → IsScriptAnswer text ended out

-- the pending messages of an answer, if any, are pending in the run of the bytes read from a reader, if its bytes are known
abbrev pub PendingIsTrue : Option (List ℕ) → ScriptAnswer → Type 0
PendingIsTrue given answer = IfSome given (λ text. IfSome answer.pending (λ names. ArePendingIn (script_bytes_read text) answer.reason names.items))

-- the endings that write nothing
abbrev pub RunWritesNothing : Ended → Type 0
RunWritesNothing ReadFault = ⊤
RunWritesNothing NoMemory = ⊤
RunWritesNothing FinishFault = ⊤
RunWritesNothing _ = ⊥
