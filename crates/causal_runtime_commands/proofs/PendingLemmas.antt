-- What is pending at a refusal, of the text of the script.
use Rattle.std.proofs.Common.{◌≡◌, List, ℕ, Option, Some, None, sym, subst}
use Rattle.std.specs.Prelude.{IfSome}
use Rattle.causal_name.specs.declared.MsgName.{MsgName}
use Rattle.causal_script.specs.declared.script.Script.{Script}
use Rattle.causal_script.specs.Spelling.{SpellsScript, script_content}
use Rattle.causal_run.specs.declared.fault.RunFault.{RunFault}
use Rattle.causal_runtime_commands.specs.declared.script.Reason.{Reason}
use Rattle.causal_runtime_commands.specs.declared.script.Reason.TheVariants as Why
use Rattle.causal_runtime_commands.specs.Reasons.{IsPendingAt, ArePendingIn}

-- what is pending in the run of a script is so in that of each text that spells it
pub pending_of_text : {A : Type 0} (text : List ℕ) (script : Script) (fault : RunFault) (reason : Option Reason) (pending : Option A) (items : A → List MsgName) → SpellsScript text (script_content script)
    → IfSome pending (λ names. (reason ≡ Some (Why.Run fault)) × IsPendingAt script fault (items names)) → IfSome pending (λ names. ArePendingIn text reason (items names))
pending_of_text text script fault reason None items spelled h = tt
pending_of_text text script fault reason (Some names) items spelled h = subst (λ (r : Option Reason). ArePendingIn text r (items names)) (sym h.0) (script, spelled, h.1)

-- an answer without pending messages says nothing false
pub none_pending : {A : Type 0} (text : List ℕ) (reason : Option Reason) (pending : Option A) (items : A → List MsgName) → pending ≡ None → IfSome pending (λ names. ArePendingIn text reason (items names))
none_pending {A = A} text reason pending items none = subst (λ (p : Option A). IfSome p (λ names. ArePendingIn text reason (items names))) (sym none) tt
