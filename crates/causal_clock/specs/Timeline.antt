-- What contracts see of a clock: its lanes, and its events in the order in which they were added.
use Rattle.std.specs.Prelude.{ℕ, ◌+◌, ◌==◌, Option, Some, None, List, [], ◌∷◌, ◌++◌, take, count_by, slice_index_or}
use Rattle.causal_clock.specs.declared.Event.{Event}

-- the number of lanes, how many of them were opened after the start, and the events, numbered from 0
pub record Timeline : Type 0 where
  pub lanes : ℕ
  pub opened : ℕ
  pub events : List Event

-- the event of a lane that receives what event `send` sent
abbrev pub receiving : ℕ → ℕ → Event
receiving lane send = record { lane = lane; send = Some send }

-- the timeline with one more event
abbrev pub with_event : Timeline → Event → Timeline
with_event t e = record t { events = t.events ++ e ∷ [] }

-- the timeline with one more lane, opened after the start
abbrev pub with_lane : Timeline → Timeline
with_lane t = record t { lanes = t.lanes + 1; opened = t.opened + 1 }

-- the lane of event i
abbrev pub lane_of : List Event → ℕ → ℕ
lane_of events i = (slice_index_or events i (record { lane = 0; send = None })).lane

-- the event that sent what event i receives; `None` if i is not a receive
abbrev pub sending_event : List Event → ℕ → Option ℕ
sending_event events i = (slice_index_or events i (record { lane = 0; send = None })).send

-- how many events the lane has
abbrev pub lane_length : List Event → ℕ → ℕ
lane_length events lane = count_by (λ e. e.lane == lane) events

-- the place of event i: how many events of its lane precede it
abbrev pub lane_place : List Event → ℕ → ℕ
lane_place events i = lane_length (take i events) (lane_of events i)
