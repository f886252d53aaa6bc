-- How the events of a vector clock represent the entries of a run.
use Rattle.std.specs.Prelude.{◌≡◌, ℕ, ◌<◌, ◌≤◌, ◌↔◌, Some, List, ◌∷◌, length, slice_index}
use Rattle.causal_audit.specs.Inside.Common.{Entry, lane, restarts, AreLegalEntries, IsEventOf, Delivers}
use Rattle.causal_clock.specs.declared.Event.{Event}
use Rattle.causal_clock.specs.declared.TheConstants.{OPENED_LANES}
use Rattle.causal_clock.specs.Timeline.{Timeline, lane_of, sending_event}

-- the clock has an event for each entry, at its position; two sends or deliveries share a lane of the clock exactly if
-- they share a lane of one process, and an event receives exactly the send that the delivery at its position delivers
pub record IsClockOf (past : List Entry) (events : List Event) : Type 0 where
  pub count : length events ≡ length past
  pub same_lane : (i j p q l m : ℕ) → IsEventOf past i p l → IsEventOf past j q m → (lane_of events i ≡ lane_of events j) ↔ ((p ≡ q) × (l ≡ m))
  pub receives : (j i : ℕ) → j < length past → (sending_event events j ≡ Some i) ↔ Delivers past j i

-- `IsClockOf` holds, and `present` contains the clock's lane of each process's present lane
pub record IsClockWithLanes (n : ℕ) (past : List Entry) (clock : Timeline) (present : List ℕ) : Type 0 where
  pub stands : IsClockOf past clock.events
  pub opened : clock.opened ≡ restarts past
  pub processes : length present ≡ n
  pub within : (p : ℕ) → p < n → slice_index present p < clock.lanes
  pub apart : (p q : ℕ) → p < n → q < n → slice_index present p ≡ slice_index present q → p ≡ q
  pub lanes : (i p l : ℕ) → IsEventOf past i p l → lane_of clock.events i < clock.lanes
  pub present_lane : (i p q l : ℕ) → q < n → IsEventOf past i p l → (lane_of clock.events i ≡ slice_index present q) ↔ ((p ≡ q) × (l ≡ lane past q))

-- one more entry may be added to the clock of the entries so far
pub record CanExtendClock (e : Entry) (clock : Timeline) (present : List ℕ) : Type 0 where
  pub processes : ℕ
  pub past : List Entry
  pub few : processes ≤ 256
  pub some : 1 ≤ processes
  pub accepted : AreLegalEntries processes (e ∷ past)
  pub lanes : restarts (e ∷ past) ≤ OPENED_LANES
  pub mirrors : IsClockWithLanes processes past clock present
