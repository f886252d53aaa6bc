-- Checks of a seat against the value under the lock.
use Rattle.std.specs.Prelude.{◌≡◌, ◌↔◌, ℕ, ◌≤◌, ◌<◌, length, Option, Some, None, Result, Ok, Err}
use Rattle.causal_protocol.specs.declared.request.Request.{Request}
use Rattle.causal_protocol.specs.declared.request.Reply.{Reply}
use Rattle.causal_shared.specs.declared.refused.SharedRefused.{SharedRefused}
use Rattle.causal_shared.specs.declared.fault.SharedFault.{SharedFault}
use Rattle.causal_shared.specs.declared.fault.SharedFault.TheVariants.{WrongSeat, HistoryFull, NoRecord}
use Rattle.causal_shared.specs.declared.fault.LockedFault.{LockedFault}
use Rattle.causal_shared.specs.History.{last_item, run_length, item_count, LockedState, Holds, AddsItem}
use Rattle.causal_shared.specs.Limits.{max_items}
use Rattle.causal_shared.specs.Seat.{SeatView, SeatMemory, IsSeatCall, shared_fault_of}

-- the error of a refused restart
abbrev pub refusal_of : {A B : Type 0} → Result A (SharedRefused B) → Option SharedFault
refusal_of (Ok a) = None
refusal_of (Err refused) = Some refused.fault

-- one section of the lock for an item call: the item is added to the history and to the seat's own list, or nothing
-- changes
abbrev pub ItemSection : LockedState → LockedState → SeatView → SeatView → Request → Option Reply → Type 0
ItemSection old new seat seat' request None = (new ≡ old) × (seat' ≡ seat)
ItemSection old new seat seat' request (Some reply) =
    AddsItem old new seat.number (length seat.items) request reply × IsSeatCall seat seat' request reply

-- the seat is of this runtime and matches its record
abbrev pub MatchesRecord : ℕ → LockedState → SeatView → Type 0
MatchesRecord tag held seat = (seat.tag ≡ tag) × Holds held seat.number (length seat.items) seat.seen (last_item seat.items)

-- the result is `WrongSeat` if and only if the seat does not match
abbrev pub WrongSeatIsTrue : {A : Type 0} → ℕ → LockedState → SeatView → Result A SharedFault → Type 0
WrongSeatIsTrue tag held seat result = result ≡ Err WrongSeat ↔ ¬ MatchesRecord tag held seat

-- the result is `HistoryFull` only if the history is full
abbrev pub HistoryFullIsTrue : {A : Type 0} → LockedState → Result A SharedFault → Type 0
HistoryFullIsTrue held result = result ≡ Err HistoryFull → length held.history ≡ max_items

-- the result is `NoRecord` only if the history is not full
abbrev pub NoRecordIsTrue : {A : Type 0} → LockedState → Result A SharedFault → Type 0
NoRecordIsTrue held result = result ≡ Err NoRecord → length held.history < max_items

-- the seat can make an item call whose item begins at `first`
pub record CanCall (held : LockedState) (seat : SeatMemory) (first : ℕ) : Type 0 where
  pub begins : first ≡ run_length held.run
  pub later : seat.view.seen ≤ first
  pub inside : seat.view.number < length held.seats
  pub counted : length seat.view.items ≡ item_count held.seats seat.view.number
  pub room : length held.history < max_items
  pub few : length seat.view.items < max_items
  pub spare : 1 ≤ seat.spare

-- the shared runtime's result, made from the locked value's
abbrev pub shared_result : {A : Type 0} → Result A LockedFault → Result A SharedFault
shared_result (Ok a) = Ok a
shared_result (Err fault) = Err (shared_fault_of fault)
