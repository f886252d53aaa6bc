-- Facts that hold when a shared runtime finishes: complete seats, equal item lists, the opening.
use Rattle.std.specs.Prelude.{◌≡◌, ◌≢◌, ◌⊎◌, ◌<◌, ℕ, List, length, sum_by, All, AllPairs, Any}
use Rattle.causal_protocol.specs.Run.{Run}
use Rattle.causal_shared.specs.declared.item.Item.{Item}
use Rattle.causal_shared.specs.History.{items_of, opening_in}
use Rattle.causal_shared.specs.Seat.{SeatMemory}
use Rattle.causal_shared.specs.declared.shared.Shared.{Shared}
use Rattle.causal_shared.specs.Shared.{Opening, opening_from, tag_of, seats_of_shared}

-- the seat has the runtime's tag and a number below its number of seats
abbrev pub IsOwnOf : ℕ → ℕ → SeatMemory → Type 0
IsOwnOf tag k seat = (seat.view.tag ≡ tag) × (seat.view.number < k)

-- the list contains each seat of the runtime exactly once
pub record AreAllSeats (tag k : ℕ) (seats : List SeatMemory) : Type 0 where
  pub count : length seats ≡ k
  pub own : All (IsOwnOf tag k) seats
  pub once : AllPairs (λ (a : SeatMemory) (b : SeatMemory). a.view.number ≢ b.view.number) seats

-- the list contains each seat of this shared runtime exactly once
abbrev pub AreSeatsOf : {S B : Type 0} {Has : _} → Shared S B Has → List SeatMemory → Type 0
AreSeatsOf shared seats = AreAllSeats (tag_of shared) (seats_of_shared shared) seats

-- the seat's own list equals the history's items of that seat
abbrev pub HasSeatHistory : List Item → SeatMemory → Type 0
HasSeatHistory history seat = items_of seat.view.number history ≡ seat.view.items

-- one of the seats has the item's seat number
pub record HasSeat (seats : List SeatMemory) (item : Item) : Type 0 where
  pub seat : Any (λ (seat : SeatMemory). seat.view.number ≡ item.seat) seats

-- each item of the history belongs to one of the seats
pub record AllHaveSeats (seats : List SeatMemory) (history : List Item) : Type 0 where
  pub each : All (HasSeat seats) history

-- the number of items in all seats' lists together
abbrev pub items_together : List SeatMemory → ℕ
items_together seats = sum_by (λ (seat : SeatMemory). length seat.view.items) seats

-- the recording before the first item, and the failure bound
abbrev pub before_items : Run → List Item → Opening
before_items r history = opening_from (opening_in r history).recording r.faults

-- the number of one of the seats, or 0, which `Mismatch` contains if an item belongs to no seat
abbrev pub IsNoneOrSeat : List SeatMemory → ℕ → Type 0
IsNoneOrSeat seats n = (n ≡ 0) ⊎ Any (λ (seat : SeatMemory). seat.view.number ≡ n) seats
