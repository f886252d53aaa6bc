-- The columns of a lane, their capacity, and lanes that differ in one column.
use Rattle.std.specs.Prelude.{◌≡◌, ◌≢◌, ℕ, ◌-◌, ◌<◌, ◌≤◌, List, [], length, map, slice_index, vec_len, vec_capacity}
use Rattle.causal_clock.specs.declared.Rise.{Rise}
use Rattle.causal_clock.specs.declared.lane.LaneColumns.{LaneColumns}
use Rattle.causal_clock.specs.Rises.{RisesStrictly}
use Rattle.causal_clock.specs.Inside.Columns.{column_in, column_of}

-- the rises in each column of a lane
abbrev pub rises_in : LaneColumns → List (List Rise)
rises_in x = map (λ c. c.items) x.columns.items

-- how many more rises each column has capacity for
abbrev pub spare_rises : LaneColumns → List ℕ
spare_rises x = map (λ c. vec_capacity c - vec_len c) x.columns.items

abbrev pub AllStrict : LaneColumns → Type 0
AllStrict x = (source : ℕ) → RisesStrictly (column_in (rises_in x) source)

-- two lanes have the same column for each source lane
abbrev pub SameColumns : LaneColumns → LaneColumns → Type 0
SameColumns x y = (source : ℕ) → column_in (rises_in y) source ≡ column_in (rises_in x) source

-- the lane has a column for each count, with capacity for one more rise if the count is greater than its last one
pub record HasReservedRises (x : LaneColumns) (counts : List ℕ) : Type 0 where
  pub wide : length counts ≤ length (rises_in x)
  pub counted : length counts ≤ length x.row.items
  pub spare : (k : ℕ) → k < length counts → slice_index x.row.items k < slice_index counts k → 0 < slice_index (spare_rises x) k

-- two lanes differ at most in one column and its last count
pub record SameButFor (source : ℕ) (x y : LaneColumns) : Type 0 where
  pub events : y.events ≡ x.events
  pub long : length (rises_in y) ≡ length (rises_in x)
  pub counted : length y.row.items ≡ length x.row.items
  pub columns : (k : ℕ) → k ≢ source → column_in (rises_in y) k ≡ column_in (rises_in x) k
  pub spares : (k : ℕ) → k ≢ source → slice_index (spare_rises y) k ≡ slice_index (spare_rises x) k
  pub counts : (k : ℕ) → k ≢ source → slice_index y.row.items k ≡ slice_index x.row.items k

-- `count` lanes without events
pub record AreEmpty (lanes : List LaneColumns) (count : ℕ) : Type 0 where
  pub many : length lanes ≡ count
  pub lengths : (lane : ℕ) → slice_index (map (λ x. x.events) lanes) lane ≡ 0
  pub columns : (lane source : ℕ) → column_of (map rises_in lanes) lane source ≡ []
