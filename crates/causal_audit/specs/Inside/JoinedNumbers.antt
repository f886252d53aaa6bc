-- Numbers joined by commas, given the decimal texts of the numbers.
use Rattle.std.specs.Prelude.{◌≡◌, ℕ, List, map}
use Rattle.std.specs.Fmt.{decimal}
use Rattle.causal_audit.specs.VerdictLines.{joined_by_commas}

-- if the texts are those of numbers, the line contains them joined by commas
abbrev pub JoinsNumbers : List (List ℕ) → List ℕ → Type 0
JoinsNumbers texts line = (ps : List ℕ) → texts ≡ map decimal ps → line ≡ joined_by_commas ps
