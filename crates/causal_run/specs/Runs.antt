-- The run of a script, and what an error of the run implies.
use Rattle.std.specs.Prelude.{◌≡◌, ℕ, List, ◌∷◌, ◌++◌, sum_by, Option, Some, None}
use Rattle.std.specs.List.{FoldsTo}
use Rattle.causal_trace.specs.Rows.{Recording}
use Rattle.causal_process.specs.declared.message.Input.{Input}
use Rattle.causal_process.specs.declared.message.Outgoing.{Outgoing}
use Rattle.causal_protocol.specs.declared.request.Request.{Request}
use Rattle.causal_protocol.specs.declared.request.Request.TheVariants as Requests
use Rattle.causal_protocol.specs.declared.request.Reply.{Reply}
use Rattle.causal_protocol.specs.declared.request.Reply.TheVariants as Replies
use Rattle.causal_protocol.specs.declared.request.CoreFault.{CoreFault}
use Rattle.causal_protocol.specs.declared.request.CoreFault.TheVariants as Faults
use Rattle.causal_protocol.specs.Run.{Run}
use Rattle.causal_protocol.specs.Steps.{Steps}
use Rattle.causal_protocol.specs.Refusals.{request_fault}
use Rattle.causal_core.specs.CoreView.{CoreState}
use Rattle.causal_core.specs.Starts.{Starts}
use Rattle.causal_script.specs.declared.script.Command.{Command}
use Rattle.causal_script.specs.declared.script.Script.{Script}
use Rattle.causal_script.specs.declared.script.Exploration.{Exploration}
use Rattle.causal_run.specs.Explorations.{IsExplored}
use Rattle.causal_run.specs.declared.fault.RunFault.{RunFault}
use Rattle.causal_run.specs.declared.fault.RunFault.TheVariants as Fault

-- the number of spares that a request takes: 1 for a restart, otherwise 0
abbrev pub spares_for : Request → ℕ
spares_for (Requests.Restart p) = 1
spares_for _ = 0

-- the number of spares that the commands take
abbrev pub spares_in : List Command → ℕ
spares_in commands = sum_by (λ (command : Command). spares_for command.request) commands

-- the fault of a reply, if the call was refused; for a flush that failed before it finished, the fault that ended it
abbrev pub fault_in_reply : Reply → Option CoreFault
fault_in_reply (Replies.Refused fault) = Some fault
fault_in_reply (Replies.FlushRefused f) = Some f.fault
fault_in_reply _ = None

-- a legal step of the command, which was not refused
abbrev pub PerformsOne : Run → Command → Run → Type 0
PerformsOne old command new = (reply : Reply) × (fault_in_reply reply ≡ None) × Steps old command.request reply new

-- legal steps of all the commands, in order, none of them refused
abbrev pub Performs : Run → List Command → Run → Type 0
Performs start commands end = FoldsTo PerformsOne start commands end

-- the request is refused with this fault, the first that applies; if none does, a flush may end with `StoreFault`
abbrev pub IsRefusedWith : Run → Request → CoreFault → Type 0
IsRefusedWith r (Requests.Flush p) Faults.StoreFault = request_fault r (Requests.Flush p) ≡ None
IsRefusedWith r request fault = request_fault r request ≡ Some fault

-- a run of all the commands, from such a start, that leads to this run
pub record IsRunTo (IsStart : Run → Type 0) (commands : List Command) (end : Run) : Type 0 where
  pub start : Run
  pub started : IsStart start
  pub performed : Performs start commands end

-- a run of all the commands, from such a start, and then of this exploration, if there is one, with this recording
pub record IsRunFrom (IsStart : Run → Type 0) (commands : List Command) (exploration : Option Exploration) (recording : Recording) : Type 0 where
  pub mid : Run
  pub end : Run
  pub run : IsRunTo IsStart commands mid
  pub explored : IsExplored exploration mid end
  pub recorded : recording ≡ end.recording

-- a run of the commands before the line, from such a start, after which the command of the line has this fault
pub record IsRefusedFrom (IsStart : Run → Type 0) (commands : List Command) (line : ℕ) (fault : CoreFault) : Type 0 where
  pub before : List Command
  pub command : Command
  pub after : List Command
  pub split : commands ≡ before ++ command ∷ after
  pub here : command.line ≡ line
  pub start : Run
  pub end : Run
  pub started : IsStart start
  pub performed : Performs start before end
  pub refused : IsRefusedWith end command.request fault

-- what an error of the run implies: a refusal is true of the commands; the other errors imply nothing
abbrev pub ExplainsRunFault : (Run → Type 0) → List Command → RunFault → Type 0
ExplainsRunFault IsStart commands (Fault.Refused line fault) = IsRefusedFrom IsStart commands line fault
ExplainsRunFault IsStart commands _ = Unit {0}

module _ {B : Type 0} (answers : B → List Input → List (List Outgoing)) where
  -- with the bound f, the run has exactly the recording of a core that started with these boxes; as nothing is stable
  -- yet, the writers of stable entries do not matter
  pub record IsStarted (f : ℕ) (boxes : List B) (r : Run) : Type 0 where
    pub core : CoreState B
    pub starts : Starts answers f boxes core
    pub recording : r.recording ≡ core.run.recording
    pub faults : r.faults ≡ f

  -- the recording of a run of all the script's commands, from such a start
  abbrev pub IsRunOf : Script → List B → Recording → Type 0
  IsRunOf script boxes recording = IsRunFrom (IsStarted script.f boxes) script.commands None recording
