-- The state of a reader of pieces: complete lines and a partial line.
use Rattle.std.specs.Prelude.{◌≡◌, ℕ, List, [], ◌∷◌, ◌++◌, true}
use Rattle.causal_line.specs.Lines.{no_feed, IsComplete}
use Rattle.causal_lines.specs.ReadPositions.{ReadPosition}
use Rattle.causal_text.specs.ReadPosition.{IsPositionAfter}

-- each of these lines is complete
abbrev pub AreComplete : List (List ℕ) → Type 0
AreComplete [] = Unit {0}
AreComplete (l ∷ ls) = IsComplete l × AreComplete ls

-- the concatenation of lines
abbrev pub concat_lines : List (List ℕ) → List ℕ
concat_lines [] = []
concat_lines (l ∷ ls) = l ++ concat_lines ls

-- the state of a reader of pieces: the position after the complete lines, and the partial line
pub record PieceState : Type 0 where
  pub place : ReadPosition
  pub rest : List ℕ

-- the state represents these bytes: complete lines without an error, and the partial line
pub record RepresentsBytes (most : ℕ) (held : PieceState) (bytes : List ℕ) : Type 0 where
  pub complete : List (List ℕ)
  pub whole : bytes ≡ concat_lines complete ++ held.rest
  pub each : AreComplete complete
  pub unfinished : no_feed held.rest ≡ true
  pub place_is : IsPositionAfter most complete held.place
