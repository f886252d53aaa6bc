-- Event counts: for each event, how many events of each lane precede or equal it.
-- The counts are a function, independent of how they are stored.
use Rattle.std.specs.Prelude.{◌≡◌, ℕ, ◌+◌, ◌<◌, ◌≤◌, Option, Some, None, List, length}
use Rattle.causal_clock.specs.declared.Event.{Event}
use Rattle.causal_clock.specs.declared.TheConstants.{EVENTS}
use Rattle.causal_clock.specs.Timeline.{lane_of, lane_length, lane_place}
use Rattle.causal_clock.specs.Precedence.{Precedes, FirstReach}

-- the last event of the lane, if it has one
pub record LastOf (es : List Event) (event : Option ℕ) (lane : ℕ) : Type 0 where
  pub reached : (i : ℕ) → i < length es → lane_of es i ≡ lane → (p : ℕ) × (event ≡ Some p) × Precedes es i p
  pub inside : (p : ℕ) → event ≡ Some p → (p < length es) × (lane_of es p ≡ lane) × (lane_place es p + 1 ≡ lane_length es lane)
  pub empty : event ≡ None → lane_length es lane ≡ 0

-- the counts of an event, or 0 if there is none
abbrev pub count_or_none : (ℕ → ℕ → ℕ) → Option ℕ → ℕ → ℕ
count_or_none counts None lane = 0
count_or_none counts (Some j) lane = counts j lane

-- the counts are right for each event and each of `many` lanes
pub record CountsAreRight (events : List Event) (counts : ℕ → ℕ → ℕ) (many : ℕ) : Type 0 where
  pub few : length events ≤ EVENTS
  -- exactly the first `counts j lane` events of a lane reach event j
  pub reach : (j : ℕ) → j < length events → (lane : ℕ) → FirstReach events j lane (counts j lane)
  -- an event is the last event of its lane that reaches it
  pub own : (j : ℕ) → j < length events → counts j (lane_of events j) ≡ lane_place events j + 1
  pub last : (lane : ℕ) → (event : Option ℕ) × LastOf events event lane
  pub lanes : (i : ℕ) → i < length events → lane_of events i < many
