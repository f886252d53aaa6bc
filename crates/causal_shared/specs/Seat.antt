-- Seats as callers use them: their views, and the effect of each call on them.
use Rattle.std.specs.Prelude.{◌≡◌, ℕ, ◌+◌, ◌≤◌, ◌<◌, List, [], ◌∷◌, ◌++◌, length, map, slice_get, Option, Some, None, Result, Err}
use Rattle.causal_trace.specs.declared.entry.Entry.{Entry}
use Rattle.causal_protocol.specs.declared.request.Request.{Request}
use Rattle.causal_protocol.specs.declared.request.Reply.{Reply}
use Rattle.causal_protocol.specs.declared.request.Reply.TheVariants.{Restarted as Again, Refused, FlushRefused}
use Rattle.causal_protocol.specs.declared.request.Restarted.{Restarted}
use Rattle.causal_shared.specs.declared.item.Item.{Item}
use Rattle.causal_shared.specs.declared.refused.SharedRefused.{SharedRefused}
use Rattle.causal_shared.specs.declared.fault.SharedFault.{SharedFault}
use Rattle.causal_shared.specs.declared.fault.SharedFault.TheVariants.{WrongSeat, Core, Flush, NoRecord}
use Rattle.causal_shared.specs.declared.fault.LockedFault.{LockedFault}
use Rattle.causal_shared.specs.declared.fault.LockedFault.TheVariants as Refusal
use Rattle.causal_shared.specs.History.{history_item, last_item, HasDeliveryOf}
use Rattle.causal_protocol.specs.ReplyEntries.{reply_entries}
use Rattle.causal_shared.specs.Locked.{item_reply_by}

-- a seat's view: its number, its runtime's tag, its own items, and the trace length after its last recorded call or
-- snapshot
pub record SeatView : Type 0 where
  pub number : ℕ
  pub tag : ℕ
  pub items : List Item
  pub seen : ℕ

-- a seat's view, and how many more items fit without allocation
pub record SeatMemory : Type 0 where
  pub view : SeatView
  pub spare : ℕ

-- the view of a seat without items
abbrev pub new_seat_view : ℕ → ℕ → ℕ → SeatView
new_seat_view number tag seen = record { number = number; tag = tag; items = []; seen = seen }

-- k seats without items, numbered from 0
abbrev pub AreNewSeats : ℕ → ℕ → ℕ → List SeatMemory → Type 0
AreNewSeats tag seen k seats =
    (n : ℕ) → n < k
    → slice_get (map (λ (seat : SeatMemory). seat.view) seats) n ≡ Some (new_seat_view n tag seen)

-- the seat's next item
abbrev pub next_item : SeatView → Request → Reply → ℕ → Item
next_item seat request reply first = history_item seat.number (length seat.items) request reply first

-- the view after the next item, with this `seen` count
abbrev pub with_item : SeatView → Request → Reply → ℕ → ℕ → SeatView
with_item seat request reply first seen =
    record seat { items = seat.items ++ next_item seat request reply first ∷ []; seen = seen }

-- one item call, as its seat records it: the request and reply are the next item, whose `first` is at least the old
-- `seen` count
pub record IsSeatCall (old new : SeatView) (request : Request) (reply : Reply) : Type 0 where
  pub first : ℕ
  pub later : old.seen ≤ first
  pub change : new ≡ with_item old request reply first (first + reply_entries reply)

-- the item reply for an error: the core's refusal; none if no item was made
abbrev pub seat_fault_reply : SharedFault → Option Reply
seat_fault_reply (Core fault) = Some (Refused fault)
seat_fault_reply (Flush fault) = Some (FlushRefused fault)
seat_fault_reply _ = None

-- the item reply for a result, if an item was made
abbrev pub seat_reply : {A : Type 0} → (A → Reply) → Result A SharedFault → Option Reply
seat_reply answer result = item_reply_by seat_fault_reply answer result

-- the item reply for a restart's result, if an item was made
abbrev pub seat_restart_reply : {B : Type 0} → Result Restarted (SharedRefused B) → Option Reply
seat_restart_reply result = item_reply_by (λ refused. seat_fault_reply refused.fault) Again result

-- the effect of one item call on its seat: one more item, or no change
abbrev pub SeatCall : SeatView → SeatView → Request → Option Reply → Type 0
SeatCall seat seat' request None = seat' ≡ seat
SeatCall seat seat' request (Some reply) = IsSeatCall seat seat' request reply

-- the effect of an item call on its seat, with the item reply for its result
abbrev pub SeatAnswers : {A : Type 0} → SeatMemory → SeatMemory → Request → (A → Reply) → Result A SharedFault → Type 0
SeatAnswers seat seat' request answer result = SeatCall seat.view seat'.view request (seat_reply answer result)

-- a seat with another tag is refused as `WrongSeat`
abbrev pub RefusesForeignSeat : {A : Type 0} → ℕ → SeatView → Result A SharedFault → Type 0
RefusesForeignSeat tag seat result = ¬ (seat.tag ≡ tag) → result ≡ Err WrongSeat

-- the shared runtime's error, made from the locked value's
abbrev pub shared_fault_of : LockedFault → SharedFault
shared_fault_of (Refusal.Core fault) = Core fault
shared_fault_of (Refusal.Flush fault) = Flush fault
shared_fault_of Refusal.NoRecord = NoRecord

-- a snapshot's entries are at least as many as the seat's `seen` count, and contain its last delivery
pub record SnapshotSeen (old new : SeatView) (past : List Entry) : Type 0 where
  pub later : old.seen ≤ length past
  pub change : new ≡ record old { seen = length past }
  pub shows : (item : Item) → last_item old.items ≡ Some item → HasDeliveryOf past item
