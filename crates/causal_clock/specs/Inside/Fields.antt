-- The timeline that the fields of a clock represent, and the invariant of the fields.
use Rattle.std.specs.Prelude.{◌≡◌, ℕ, ◌+◌, ◌<◌, ◌≤◌, ◌==◌, if◌then◌else◌, List, length, map, slice_index}
use Rattle.causal_clock.specs.declared.Event.{Event}
use Rattle.causal_clock.specs.declared.PlacedEvent.{PlacedEvent}
use Rattle.causal_clock.specs.declared.TheConstants.{FIRST_LANES, OPENED_LANES}
use Rattle.causal_clock.specs.declared.Clocks.TheInside.{Inside}
use Rattle.causal_clock.specs.declared.Rise.{Rise}
use Rattle.causal_clock.specs.Timeline.{Timeline, lane_of, lane_length, lane_place}
use Rattle.causal_clock.specs.Rises.{count_at}
use Rattle.causal_clock.specs.Inside.Columns.{column_in, column_of, IsColumn}
use Rattle.causal_clock.specs.Inside.EventCounts.{CountsAreRight}
use Rattle.causal_clock.specs.Inside.Lanes.{rises_in}

-- event j's count of a lane: for its lane its place plus one, for another lane the column's count at its place
abbrev pub counts_in : List Event → (ℕ → ℕ → List Rise) → ℕ → ℕ → ℕ
counts_in events column j source =
    if lane_of events j == source then lane_place events j + 1 else count_at (column (lane_of events j) source) (lane_place events j)

-- how many events of a source lane reach the event of an entry, that event included
abbrev pub count_at_event : List (List Rise) → PlacedEvent → ℕ → ℕ
count_at_event columns entry source = if entry.event.lane == source then entry.place + 1 else count_at (column_in columns source) entry.place

-- the fields have the place of each event, the length of each lane, and the columns of each lane
pub record ColumnsAreRight (events : List Event) (at in_lanes : List ℕ) (column : ℕ → ℕ → List Rise) : Type 0 where
  pub keeps : CountsAreRight events (counts_in events column) (length in_lanes)
  pub places : (j : ℕ) → j < length events → slice_index at j ≡ lane_place events j
  pub lengths : (lane : ℕ) → lane < length in_lanes → slice_index in_lanes lane ≡ lane_length events lane
  pub columns : (lane source : ℕ) → IsColumn (column lane source) (lane_length events lane) (lane_length events source)

abbrev pub events_of : Inside → List Event
events_of a = map (λ x. x.event) a.placed_events.items

abbrev pub lane_places : Inside → List ℕ
lane_places a = map (λ x. x.place) a.placed_events.items

abbrev pub lengths_of : Inside → List ℕ
lengths_of a = map (λ x. x.events) a.lanes.items

abbrev pub columns_of : Inside → List (List (List Rise))
columns_of a = map rises_in a.lanes.items

abbrev pub timeline_of : Inside → Timeline
timeline_of a = record { lanes = length a.lanes.items; opened = a.opened; events = events_of a }

pub record IsClock (a : Inside) : Type 0 where
  pub keeps : ColumnsAreRight (events_of a) (lane_places a) (lengths_of a) (column_of (columns_of a))
  pub lanes : length a.lanes.items ≤ FIRST_LANES + a.opened
  pub opened : a.opened ≤ OPENED_LANES
