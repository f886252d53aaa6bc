-- The lock's invariant: the history and the seats' records fit the run.
use Rattle.std.specs.Prelude.{◌≡◌, ℕ, ◌≤◌, ◌<◌, List, length, slice_get, Option, Some, None, IfSome}
use Rattle.causal_protocol.specs.Run.{Run}
use Rattle.causal_shared.specs.declared.item.Item.{Item}
use Rattle.causal_shared.specs.declared.item.SeatRecord.{SeatRecord}
use Rattle.causal_shared.specs.History.{run_length, items_of, last_item, IsHistory, HasDeliveryOf}

-- the item at the index, if there is one
abbrev pub item_at : List Item → Option ℕ → Option Item
item_at items None = None
item_at items (Some place) = slice_get items place

-- a seat's record fits the history
pub record FitsHistory (r : Run) (items : List Item) (seat : ℕ) (kept : SeatRecord) : Type 0 where
  pub count : kept.count ≡ length (items_of seat items)
  pub seen : kept.seen ≤ run_length r
  pub placed : IfSome kept.last (λ place. place < length items)
  pub last : item_at items kept.last ≡ last_item (items_of seat items)

-- each seat's record fits the history
abbrev pub AllRecordsFit : Run → List Item → List SeatRecord → Type 0
AllRecordsFit r items seats = (seat : ℕ) (kept : SeatRecord) → slice_get seats seat ≡ Some kept → FitsHistory r items seat kept

-- the invariant: a legal history, fitting records, and the delivery of each delivery item in the trace
pub record LockInvariant (r : Run) (items : List Item) (seats : List SeatRecord) : Type 0 where
  pub legal : IsHistory r items
  pub kept : AllRecordsFit r items seats
  pub shown : (k : ℕ) (item : Item) → slice_get items k ≡ Some item → HasDeliveryOf r.recording.past item
