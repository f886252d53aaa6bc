-- The limits of a shared runtime: items and seats.
use Rattle.std.specs.Prelude.{ℕ}

-- the maximum number of items in a history
abbrev pub max_items : ℕ
max_items = 1048576

-- the maximum number of seats
abbrev pub max_seats : ℕ
max_seats = 64
