-- The items and results of a script's commands, issued by one seat.
use Rattle.std.specs.Prelude.{◌≡◌, ◌≢◌, ℕ, List, [], ◌∷◌, ◌++◌, Some, None, Result, Ok, Err}
use Rattle.std.specs.List.{AllZip}
use Rattle.causal_protocol.specs.declared.request.Request.{Request}
use Rattle.causal_protocol.specs.declared.request.Reply.{Reply}
use Rattle.causal_protocol.specs.declared.request.CoreFault.{CoreFault}
use Rattle.causal_protocol.specs.declared.request.CoreFault.TheVariants as Faults
use Rattle.causal_shared.specs.declared.item.Item.{Item}
use Rattle.causal_shared.specs.declared.fault.SharedFault.{SharedFault}
use Rattle.causal_shared.specs.declared.fault.SharedFault.TheVariants as Call
use Rattle.causal_shared.specs.Seat.{SeatView, IsSeatCall, SeatCall, seat_fault_reply}
use Rattle.causal_script.specs.declared.script.Command.{Command}
use Rattle.causal_run.specs.declared.fault.RunFault.{RunFault}
use Rattle.causal_run.specs.declared.fault.RunFault.TheVariants as Fault
use Rattle.causal_run.specs.Runs.{fault_in_reply}

-- the call became the seat's next item, with its fault if it was refused; or no item was made
abbrev pub RecordsRequest : {A : Type 0} → SeatView → SeatView → Request → Result A SharedFault → Type 0
RecordsRequest old new request (Ok a) = (reply : Reply) × (fault_in_reply reply ≡ None) × IsSeatCall old new request reply
RecordsRequest old new request (Err fault) = SeatCall old new request (seat_fault_reply fault)

-- the item records the command, not refused
abbrev pub IsPerformed : Command → Item → Type 0
IsPerformed command item = (item.request ≡ command.request) × (fault_in_reply item.reply ≡ None)

-- each command has its item, not refused
abbrev pub ArePerformed : List Command → List Item → Type 0
ArePerformed commands items = AllZip IsPerformed commands items

-- the commands before the line have items that are not refused, and the last item is the refusal of the line's command
pub record IsRefusedRunAt (commands : List Command) (items : List Item) (line : ℕ) (fault : CoreFault) : Type 0 where
  pub before : List Command
  pub command : Command
  pub after : List Command
  pub split : commands ≡ before ++ command ∷ after
  pub here : command.line ≡ line
  pub performed : List Item
  pub last : Item
  pub all_items : items ≡ performed ++ last ∷ []
  pub each : ArePerformed before performed
  pub request : last.request ≡ command.request
  pub refused : fault_in_reply last.reply ≡ Some fault
  pub known : fault ≢ Faults.NoMemory

-- a refusal is that of the last item; the other errors imply nothing about the items
abbrev pub IsRefusedRun : List Command → List Item → RunFault → Type 0
IsRefusedRun commands items (Fault.Refused line fault) = IsRefusedRunAt commands items line fault
IsRefusedRun commands items _ = Unit {0}

-- the run's error for a core's fault at a line
abbrev pub refusal_at : ℕ → CoreFault → RunFault
refusal_at line Faults.NoMemory = Fault.Memory
refusal_at line fault = Fault.Refused line fault

-- the run's error for a fault of a shared call at a line
abbrev pub run_fault_at : ℕ → SharedFault → RunFault
run_fault_at line Call.WrongSeat = Fault.Lock
run_fault_at line Call.HistoryFull = Fault.Lock
run_fault_at line Call.NoRecord = Fault.Memory
run_fault_at line (Call.Core fault) = refusal_at line fault
run_fault_at line (Call.Flush f) = refusal_at line f.fault
