-- The rises of a lane by a source lane: the places at which the count of the source's events rises.
use Rattle.std.specs.Prelude.{◌≡◌, ◌≢◌, ℕ, ◌<◌, max, leb, if◌then◌else◌, None, List, [], ◌∷◌, length, slice_index_or}
use Rattle.causal_clock.specs.declared.Event.{Event}
use Rattle.causal_clock.specs.declared.Rise.{Rise}
use Rattle.causal_clock.specs.Precedence.{FirstReach}
use Rattle.causal_clock.specs.Timeline.{lane_of, lane_place, sending_event}

-- the i-th rise of a list
abbrev pub rise_at : List Rise → ℕ → Rise
rise_at rises i = slice_index_or rises i (record { place = 0; count = 0 })

-- the count at a place of the lane: the greatest count of the rises at or before it; 0 if there is none
abbrev pub count_at : List Rise → ℕ → ℕ
count_at [] place = 0
count_at (r ∷ rises) place = max (if leb r.place place then r.count else 0) (count_at rises place)

-- places and counts strictly increase, and counts are at least 1
pub record RisesStrictly (rises : List Rise) : Type 0 where
  pub some : (i : ℕ) → i < length rises → 0 < (rise_at rises i).count
  pub places : (i k : ℕ) → i < k → k < length rises → (rise_at rises i).place < (rise_at rises k).place
  pub counts : (i k : ℕ) → i < k → k < length rises → (rise_at rises i).count < (rise_at rises k).count

-- event j is a receive at that place of the lane
pub record IsReceiveAt (events : List Event) (lane place j : ℕ) : Type 0 where
  pub within : j < length events
  pub of_lane : lane_of events j ≡ lane
  pub placed : lane_place events j ≡ place
  pub receives : sending_event events j ≢ None

-- the rises of a lane by the source, which is another lane
pub record AreRises (events : List Event) (lane source : ℕ) (rises : List Rise) : Type 0 where
  pub strictly : RisesStrictly rises
  -- each rise is at a receive
  pub received : (i : ℕ) → i < length rises → (j : ℕ) × IsReceiveAt events lane (rise_at rises i).place j
  -- the count at each event of the lane is the number of the source's events that reach it, which are its first ones
  pub told : (j : ℕ) → j < length events → lane_of events j ≡ lane → FirstReach events j source (count_at rises (lane_place events j))
