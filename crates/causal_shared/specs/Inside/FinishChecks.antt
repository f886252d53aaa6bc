-- Results of the checks of `finish`: seats that do not match the history, and another opening.
use Rattle.std.specs.Prelude.{◌≡◌, ◌≤◌, ℕ, List, [], ◌∷◌, take, All, Any, ◌⊎◌}
use Rattle.causal_trace.specs.declared.entry.Entry.{Entry}
use Rattle.causal_trace.specs.Rows.{Recording}
use Rattle.causal_protocol.specs.Run.{Run}
use Rattle.causal_shared.specs.declared.item.Item.{Item}
use Rattle.causal_shared.specs.Finish.{HasSeatHistory, AllHaveSeats, AreAllSeats, before_items}
use Rattle.causal_shared.specs.History.{LockedState}
use Rattle.causal_shared.specs.Seat.{SeatMemory}
use Rattle.causal_shared.specs.Shared.{opening_from}

-- the lowest number of a seat whose own list differs from the history's items of it
pub record IsLeastMismatch (history : List Item) (seats : List SeatMemory) (n : ℕ) : Type 0 where
  pub here : Any (λ (seat : SeatMemory). (seat.view.number ≡ n) × ¬ HasSeatHistory history seat) seats
  pub least : All (λ (seat : SeatMemory). ¬ HasSeatHistory history seat → n ≤ seat.view.number) seats

-- the lowest number of a seat whose own list differs from the history's items of it; or 0, if an item belongs to no
-- seat
abbrev pub IsMismatch : List Item → List SeatMemory → ℕ → Type 0
IsMismatch history seats n = IsLeastMismatch history seats n ⊎ ((n ≡ 0) × ¬ AllHaveSeats seats history)

-- the recording before the first item is this one, with this failure bound
abbrev pub HasOpening : Run → List Item → Recording → ℕ → Type 0
HasOpening r history recording faults = before_items r history ≡ opening_from recording faults

-- the seats match the history, but the opening differs
pub record HasOtherOpening (r : Run) (history : List Item) (seats : List SeatMemory) (recording : Recording) (faults : ℕ) : Type 0 where
  pub agree : All (HasSeatHistory history) seats
  pub seated : AllHaveSeats seats history
  pub other : ¬ HasOpening r history recording faults

-- no check prevents the finish: the seats are complete, they match the history, and the opening is this one
pub record CanFinish (held : LockedState) (tag k : ℕ) (seats : List SeatMemory) (recording : Recording) (faults : ℕ) : Type 0 where
  pub complete : AreAllSeats tag k seats
  pub agree : All (HasSeatHistory held.history) seats
  pub seated : AllHaveSeats seats held.history
  pub begins : HasOpening held.run held.history recording faults

-- the entries before the first item, in recorded order
abbrev pub entries_before : List Entry → List Item → List Entry
entries_before entries [] = entries
entries_before entries (item ∷ _) = take item.first entries
