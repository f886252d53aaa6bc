-- Histories of calls over a run, and the plain data under the lock.
use Rattle.std.specs.Prelude.{◌≡◌, ℕ, ◌+◌, ◌-◌, ◌≤◌, ◌==◌, List, [], ◌∷◌, ◌++◌, length, take, drop, reverse, count_by, slice_get, slice_set, filter, unwrap_or, option_map, Option, Some, None}
use Rattle.causal_trace.specs.declared.entry.Entry.{Entry}
use Rattle.causal_protocol.specs.declared.request.Request.{Request}
use Rattle.causal_protocol.specs.declared.request.Reply.{Reply}
use Rattle.causal_protocol.specs.declared.request.Reply.TheVariants as Replies
use Rattle.causal_protocol.specs.declared.request.Delivered.{Delivered}
use Rattle.causal_trace.specs.Past.{det_at}
use Rattle.causal_protocol.specs.Run.{Run}
use Rattle.causal_protocol.specs.Steps.{LegalStep, Steps, extend_run}
use Rattle.causal_protocol.specs.ReplyEntries.{is_stable_entry}
use Rattle.causal_shared.specs.declared.item.Item.{Item}
use Rattle.causal_shared.specs.declared.item.SeatRecord.{SeatRecord}

-- the number of entries of a run
abbrev pub run_length : Run → ℕ
run_length r = length r.recording.past

-- the run without its k newest entries; the writers of the remaining stable entries remain
abbrev pub drop_newest : ℕ → Run → Run
drop_newest k r = record r {
  recording = record { processes = r.recording.processes; past = drop k r.recording.past };
  writers = drop (count_by is_stable_entry (take k r.recording.past)) r.writers;
}

-- the prefix of the run at an instant
unfoldable pub run_at : Run → ℕ → Run
run_at r n = drop_newest (run_length r - n) r

-- the entries of a run from an instant on, in recorded order
abbrev pub entries_since : ℕ → Run → List Entry
entries_since n r = reverse (take (run_length r - n) r.recording.past)

-- a call with this request and reply leads from one run to the other: the new entries are a legal step, and the request
-- determines the writers of the stable entries
pub record IsCallStep (old : Run) (request : Request) (reply : Reply) (new : Run) : Type 0 where
  pub grown : new ≡ extend_run old request (entries_since (run_length old) new)
  pub legal : LegalStep old request reply (entries_since (run_length old) new)

-- the `first` of the first of these items, or the run's length if there is none
abbrev pub next_first : Run → List Item → ℕ
next_first r [] = run_length r
next_first r (item ∷ _) = item.first

-- each item's call leads from the run cut at its `first` to the run cut at the next item's; the last one's leads to the
-- whole run
abbrev pub AllLegal : Run → List Item → Type 0
AllLegal r [] = Unit {0}
AllLegal r (item ∷ items) =
    (item.first ≤ next_first r items)
    × IsCallStep (run_at r item.first) item.request item.reply (run_at r (next_first r items))
    × AllLegal r items

-- the run before the first item
abbrev pub opening_in : Run → List Item → Run
opening_in r items = run_at r (next_first r items)

-- the items of a seat, in order
abbrev pub items_of : ℕ → List Item → List Item
items_of seat items = filter (λ item. item.seat == seat) items

-- the last item, if any
abbrev pub last_item : List Item → Option Item
last_item items = slice_get items (length items - 1)

-- the history is legal over the run, and each seat's calls are numbered from 0
pub record IsHistory (r : Run) (items : List Item) : Type 0 where
  pub legal : AllLegal r items
  pub numbered : (seat k : ℕ) (item : Item) → slice_get (items_of seat items) k ≡ Some item → item.call ≡ k

-- the entries contain the delivery of a delivery item, at the position `first`
abbrev pub HasDeliveryOf : List Entry → Item → Type 0
HasDeliveryOf past item = (d : Delivered) → item.reply ≡ Replies.Delivered d → det_at past item.first ≡ Some d.det

-- a seat's record after its item at this index of the history, with this `seen` count
abbrev pub record_after : Item → ℕ → ℕ → SeatRecord
record_after item seen place = record { count = item.call + 1; seen = seen; last = Some place }

-- the seats' records after this item, with this `seen` count, at this index of the history
abbrev pub with_record : List SeatRecord → Item → ℕ → ℕ → List SeatRecord
with_record seats item seen place = slice_set seats item.seat (record_after item seen place)

-- a history item from its fields
abbrev pub history_item : ℕ → ℕ → Request → Reply → ℕ → Item
history_item seat call request reply first =
    record { seat = seat; call = call; request = request; reply = reply; first = first }

-- the plain data under the lock
pub record LockedState : Type 0 where
  pub run : Run
  pub history : List Item
  pub seats : List SeatRecord

-- one item call: the core's step, the appended item, and the seat's new record
pub record AddsItem (old new : LockedState) (seat call : ℕ) (request : Request) (reply : Reply) : Type 0 where
  pub step : Steps old.run request reply new.run
  pub history : new.history ≡ old.history ++ history_item seat call request reply (run_length old.run) ∷ []
  pub seats :
      new.seats
      ≡ with_record old.seats (history_item seat call request reply (run_length old.run)) (run_length new.run) (length old.history)

-- the record of a seat without items
abbrev pub new_record : ℕ → SeatRecord
new_record seen = record { count = 0; seen = seen; last = None }

-- the seat's record and its last item in the history equal these values
pub record Holds (held : LockedState) (seat count seen : ℕ) (last : Option Item) : Type 0 where
  pub kept : (k : SeatRecord) × (slice_get held.seats seat ≡ Some k) × (k.count ≡ count) × (k.seen ≡ seen)
  pub ends : last ≡ last_item (items_of seat held.history)

-- the number of items in a seat's record, or 0 if there is no such seat
abbrev pub item_count : List SeatRecord → ℕ → ℕ
item_count seats seat = unwrap_or (option_map (λ (kept : SeatRecord). kept.count) (slice_get seats seat)) 0

-- only this seat's `seen` count changes; it becomes the run's length
pub record UpdatesSeen (old new : LockedState) (seat : ℕ) : Type 0 where
  pub run : new.run ≡ old.run
  pub history : new.history ≡ old.history
  pub seats :
      (k : SeatRecord) → slice_get old.seats seat ≡ Some k
      → new.seats ≡ slice_set old.seats seat (record k { seen = run_length old.run })
