-- The position of a reader after given lines.
use Rattle.std.specs.Prelude.{◌≡◌, ℕ, List, length, sum_by}
use Rattle.causal_lines.specs.ReadPositions.{ReadPosition}
use Rattle.causal_text.specs.Spelling.{LeadsTo}

-- p is the position after these lines, none of which has an error
pub record IsPositionAfter (most : ℕ) (before : List (List ℕ)) (p : ReadPosition) : Type 0 where
  pub reaches : LeadsTo most before p.stage
  pub count : p.count ≡ length before
  pub size : p.size ≡ sum_by length before
