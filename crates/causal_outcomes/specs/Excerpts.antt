-- The first bytes of a line, which are shown with its error.
use Rattle.std.specs.Prelude.{ℕ, ◌-◌, List, [], ◌∷◌, take, drop}
use Rattle.causal_line.specs.Lines.{lines}
use Rattle.causal_line.specs.Values.{without_line_feed}

-- the first of these lines; empty if there is none
abbrev pub first_line : List (List ℕ) → List ℕ
first_line [] = []
first_line (line ∷ later) = line

-- the first 80 bytes of a line, without its line feed; lines are counted from 1, and one that is not there is empty
abbrev pub excerpt : List ℕ → ℕ → List ℕ
excerpt text line = take 80 (without_line_feed (first_line (drop (line - 1) (lines text))))
