-- When the effect of each entry first leaves its process, computed from the last entry to the first.
use Rattle.std.specs.Prelude.{◌≡◌, ℕ, ◌<◌, ◌≤◌, List, length, slice_index_or, slice_set, min}
use Rattle.causal_audit.specs.Inside.Common.{option_map_or, Entry, Deliver, Send, entry_at, Delivers}

-- for each entry a position before which no send of its process from it on is delivered
pub record AreDepartures (past : List Entry) (whose : ℕ → ℕ) (spreads : List ℕ) : Type 0 where
  pub count : length spreads ≡ length past
  pub each : (k s j : ℕ) → k < length past → k ≤ s → whose s ≡ whose k → Delivers past j s → slice_index_or spreads k 0 ≤ j

-- the list with position i in the slot of the send that an entry delivers
abbrev pub with_delivered : Entry → ℕ → List ℕ → List ℕ
with_delivered (Deliver to send rsn listed) i list = slice_set list send i
with_delivered _ i list = list

-- the departure of the entry at position i: the lesser of the value in its slot and of its lane's
abbrev pub departure_at : Entry → ℕ → ℕ → List ℕ → List ℕ → ℕ
departure_at e i lane spreads outs = min (slice_index_or (with_delivered e i spreads) i 0) (slice_index_or outs lane 0)

-- the list after the entry at position i of this lane is processed
abbrev pub with_departure : Entry → ℕ → ℕ → List ℕ → List ℕ → List ℕ
with_departure e i lane spreads outs = slice_set (with_delivered e i spreads) i (departure_at e i lane spreads outs)

-- the process of a send or a delivery; an arbitrary process for another entry
abbrev pub event_process : Entry → ℕ
event_process (Send from to ssn) = from.0
event_process (Deliver to send rsn listed) = to.0
event_process _ = 0

-- the process of the entry at a position
abbrev pub process_at : List Entry → ℕ → ℕ
process_at past i = option_map_or event_process (entry_at past i) 0
