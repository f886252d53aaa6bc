-- One section of the lock, for the private functions that it consists of.
use Rattle.std.specs.Prelude.{ℕ, length, Option}
use Rattle.causal_protocol.specs.declared.request.Request.{Request}
use Rattle.causal_protocol.specs.declared.request.Reply.{Reply}
use Rattle.causal_shared.specs.declared.locked.Locked.{Locked}
use Rattle.causal_shared.specs.History.{LockedState}
use Rattle.causal_shared.specs.Locked.{locked_state, ItemCall}
use Rattle.causal_shared.specs.Seat.{SeatMemory}
use Rattle.causal_shared.specs.Inside.SeatChecks.{CanCall, ItemSection}

-- after an item call of the locked value, the seat's list contains the same item
abbrev pub RecordsReply : {S B : Type 0} {Has : _}
    → Locked S B Has → SeatMemory → SeatMemory → Request → Option Reply → ℕ → Type 0
RecordsReply locked seat seat' request reply first =
    (old : LockedState) → CanCall old seat first
    → ItemCall old (locked_state locked) seat.view.number (length seat.view.items) request reply
    → ItemSection old (locked_state locked) seat.view seat'.view request reply

-- an item call and its seat's update, as one section of the lock
abbrev pub LockSections : {S B : Type 0} {Has : _}
    → Locked S B Has → Locked S B Has → SeatMemory → SeatMemory → Request → Option Reply → Type 0
LockSections old new seat seat' request reply =
    ItemSection (locked_state old) (locked_state new) seat.view seat'.view request reply
