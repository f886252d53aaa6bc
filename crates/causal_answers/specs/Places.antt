-- The line of an entry in its trace's text. Lines count from 1; line 1 is the header.
use Rattle.std.specs.Prelude.{ℕ, ◌+◌}

-- the line of the last entry before an instant; the header's if there is none
abbrev pub line_before : ℕ → ℕ
line_before instant = instant + 1
