-- What is pending in the run of a script before one of its deliveries.
use Rattle.std.specs.Prelude.{◌≡◌, ℕ, List, take, slice_get, Some}
use Rattle.causal_name.specs.declared.MsgName.{MsgName}
use Rattle.causal_name.specs.declared.Pid.{Pid}
use Rattle.causal_protocol.specs.declared.request.Request.TheVariants as Requests
use Rattle.causal_protocol.specs.Run.{Run, memories_of}
use Rattle.causal_core.specs.Pendings.{pending_in}
use Rattle.causal_script.specs.declared.script.Command.{Command}
use Rattle.causal_run.specs.Runs.{IsRunTo}

-- the command with this index is on the line, and delivers to q
pub record IsDeliverCommandAt (commands : List Command) (place line : ℕ) (q : Pid) : Type 0 where
  pub command : Command
  pub source : Pid
  pub ssn : ℕ
  pub there : slice_get commands place ≡ Some command
  pub here : command.line ≡ line
  pub request : command.request ≡ Requests.Deliver q source ssn

-- the messages that are pending for the receiver of the line's delivery, after a run of the commands before it from such
-- a start
pub record IsPendingBefore (IsStart : Run → Type 0) (commands : List Command) (line : ℕ) (names : List MsgName) : Type 0 where
  pub place : ℕ
  pub receiver : Pid
  pub delivery : IsDeliverCommandAt commands place line receiver
  pub end : Run
  pub run : IsRunTo IsStart (take place commands) end
  pub pending : names ≡ pending_in (memories_of end) receiver
