-- The lines of a text.
use Rattle.std.specs.Prelude.{ℕ, ◌==◌, Bool, List, [], ◌∷◌, if◌then◌else◌, count_by}
use Rattle.std.specs.List.{onto_first}

-- the byte is a line feed
abbrev pub is_feed : ℕ → Bool
is_feed x = x == 10

-- A line ends with a line feed, which does not belong to it, or at the end of the text. No line follows a final line
-- feed.
abbrev pub script_lines : List ℕ → List (List ℕ)
script_lines [] = []
script_lines (x ∷ xs) = if is_feed x then [] ∷ script_lines xs else onto_first x (script_lines xs)

-- the number of line feeds
abbrev pub count_line_feeds : List ℕ → ℕ
count_line_feeds xs = count_by is_feed xs
