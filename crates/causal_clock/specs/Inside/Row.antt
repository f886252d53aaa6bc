-- The row of a lane: the last count of each column.
use Rattle.std.specs.Prelude.{◌≡◌, ℕ, ◌≤◌, List, slice_index}
use Rattle.causal_clock.specs.declared.Rise.{Rise}
use Rattle.causal_clock.specs.Rises.{count_at}
use Rattle.causal_clock.specs.Inside.Columns.{column_in}

-- from place `last` on, which is at most the lane's length, each column has the count in the row
pub record RowMatchesColumns (events last : ℕ) (columns : List (List Rise)) (row : List ℕ) : Type 0 where
  pub within : last ≤ events
  pub told : (source place : ℕ) → last ≤ place → count_at (column_in columns source) place ≡ slice_index row source
