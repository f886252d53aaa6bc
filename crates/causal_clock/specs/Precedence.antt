-- The happened-before relation on events (Lamport 1978).
use Rattle.std.specs.Prelude.{◌≡◌, ℕ, ◌<◌, ◌≤◌, ◌↔◌, ◌⊎◌, ◌==◌, ◌&&◌, Bool, true, Some, List, length, count_by}
use Rattle.std.specs.List.{range_with_len}
use Rattle.causal_clock.specs.declared.Event.{Event}
use Rattle.causal_clock.specs.Timeline.{lane_of, sending_event, lane_length, lane_place}

-- event i directly precedes event j: i is earlier, and both are in one lane or j receives what i sent
pub record DirectlyPrecedes (events : List Event) (i j : ℕ) : Type 0 where
  pub earlier : i < j
  pub within : j < length events
  pub because : (lane_of events i ≡ lane_of events j) ⊎ (sending_event events j ≡ Some i)

-- event i is j or happened before it: there is a chain from i to j in which each event directly precedes the next
pub data Precedes (events : List Event) : ℕ → ℕ → Type 0 where
  itself : {i : ℕ} → i < length events → Precedes events i i
  onward : {i j k : ℕ} → Precedes events i j → DirectlyPrecedes events j k → Precedes events i k

-- i reaches the next event e: i is that event, or reaches an event of its lane or its send
abbrev pub IsReachedThrough : List Event → Event → ℕ → Type 0
IsReachedThrough events e i =
    (i ≡ length events) ⊎ ((j : ℕ) × Precedes events i j × ((lane_of events j ≡ e.lane) ⊎ (e.send ≡ Some j)))

-- the events of the lane that reach j are exactly its first n events
pub record FirstReach (events : List Event) (j lane n : ℕ) : Type 0 where
  pub no_more : n ≤ lane_length events lane
  pub first : (i : ℕ) → i < length events → lane_of events i ≡ lane → Precedes events i j ↔ (lane_place events i < n)

-- a test of event numbers that passes exactly for the events that reach j
abbrev pub IsReachTest : List Event → ℕ → (ℕ → Bool) → Type 0
IsReachTest events j test = (i : ℕ) → i < length events → (test i ≡ true) ↔ Precedes events i j

-- how many events of the lane have a number that passes the test
abbrev pub count_in_lane : List Event → ℕ → (ℕ → Bool) → ℕ
count_in_lane events lane test =
    count_by (λ i. lane_of events i == lane && test i) (range_with_len 0 (length events))
