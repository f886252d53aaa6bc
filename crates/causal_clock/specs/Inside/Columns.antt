-- A column: the rises of a lane by one source lane.
use Rattle.std.specs.Prelude.{◌≡◌, ℕ, ◌<◌, ◌≤◌, max, ltb, if◌then◌else◌, List, [], ◌∷◌, ◌++◌, length, slice_index_or}
use Rattle.causal_clock.specs.declared.Rise.{Rise}
use Rattle.causal_clock.specs.Rises.{rise_at, count_at, RisesStrictly}

-- the rises of a lane with `events` events by a source lane with `from_events` events
pub record IsColumn (rises : List Rise) (events from_events : ℕ) : Type 0 where
  pub strictly : RisesStrictly rises
  pub places : (i : ℕ) → i < length rises → (rise_at rises i).place < events
  pub counts : (i : ℕ) → i < length rises → (rise_at rises i).count ≤ from_events
  -- therefore there are no more rises than the source lane has events
  pub few : length rises ≤ from_events

-- the column after an event with that count at that place: one more rise, if the count is greater
abbrev pub column_after : List Rise → ℕ → ℕ → List Rise
column_after rises place count = if ltb (count_at rises place) count then rises ++ record { place = place; count = count } ∷ [] else rises

-- exactly the first n rises are at or before the place
pub record IsSplitAt (rises : List Rise) (place n : ℕ) : Type 0 where
  pub inside : n ≤ length rises
  pub before : (i : ℕ) → i < n → (rise_at rises i).place ≤ place
  pub after : (i : ℕ) → n ≤ i → i < length rises → place < (rise_at rises i).place

-- the two counts are equal, or neither is greater than the known one
abbrev pub SameOrNoNews : ℕ → ℕ → ℕ → Type 0
SameOrNoNews known count other = max known count ≡ max known other

-- the column of a source lane, among those of one lane; the column of a lane and a source lane, among those of all
-- lanes. A lane has no column until it receives.
abbrev pub column_in : List (List Rise) → ℕ → List Rise
column_in columns source = slice_index_or columns source []

abbrev pub column_of : List (List (List Rise)) → ℕ → ℕ → List Rise
column_of lanes lane source = column_in (slice_index_or lanes lane []) source
