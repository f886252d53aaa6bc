-- The sizes of the columns and rows of a picture.
use Rattle.std.specs.Prelude.{ℕ, ◌+◌, ◌*◌, ◌/◌, min, max}
use Rattle.causal_picture.specs.declared.entry_range.Grid.{Grid}

-- the number of shown entries
abbrev pub column_count : Grid → ℕ
column_count g = g.early.count + g.late.count

-- the distance between entries: 30, or less if all columns would be wider than 2,200
abbrev pub column_width : Grid → ℕ
column_width g = min 30 (2200 / (column_count g + 1))

-- the distance between processes' lines: 40, or less if all rows would be higher than 560, but at least 16
abbrev pub row_height : ℕ → ℕ
row_height rows = max 16 (min 40 (560 / (rows + 1)))

-- the y at which the legend begins
abbrev pub bottom_of : ℕ → ℕ
bottom_of rows = 92 + row_height rows * rows
