-- The lines of a text, and complete lines.
use Rattle.std.specs.Prelude.{◌≡◌, ℕ, ◌==◌, ◌&&◌, not, List, [], ◌∷◌, ◌++◌, Bool, true, if◌then◌else◌}

-- the line feed
abbrev pub line_feed : ℕ
line_feed = 10

-- the lines with one more byte in front of the first line
abbrev pub before_first_line : ℕ → List (List ℕ) → List (List ℕ)
before_first_line x [] = (x ∷ []) ∷ []
before_first_line x (l ∷ ls) = (x ∷ l) ∷ ls

-- the lines of a text; each ends with its line feed, which it includes, or with the text, and their concatenation is
-- the text
abbrev pub lines : List ℕ → List (List ℕ)
lines [] = []
lines (x ∷ xs) = if x == line_feed then (x ∷ []) ∷ lines xs else before_first_line x (lines xs)

-- whether no byte is a line feed
abbrev pub no_feed : List ℕ → Bool
no_feed [] = true
no_feed (x ∷ xs) = not (x == line_feed) && no_feed xs

-- a complete line: its only line feed is its last byte
abbrev pub IsComplete : List ℕ → Type 0
IsComplete line = (xs : List ℕ) × (no_feed xs ≡ true) × (line ≡ xs ++ line_feed ∷ [])
