-- The bytes of the lines are those of the text.
use Rattle.std.proofs.Common.{◌≡◌, ℕ, suc, List, [], ◌∷◌, length, Bool, true, false, cond, refl, ap, ◌∙◌, arith}
use Rattle.std.specs.Prelude.{sum_by, ◌==◌}
use Rattle.std.proofs.lemmas.List.Sums.{sum_by-cons}
use Rattle.causal_line.specs.Lines.{lines, before_first_line}

first_grown : (b : Bool) (x : ℕ) (ls : List (List ℕ)) → sum_by length (cond b ((x ∷ []) ∷ ls) (before_first_line x ls)) ≡ suc (sum_by length ls)
first_grown true x ls = sum_by-cons length (x ∷ []) ls ∙ omega arith
first_grown false x [] = refl
first_grown false x (l ∷ ls) = simp (sum_by-cons {X = List ℕ}) (omega arith)

-- the lengths of the lines add up to that of the text
pub sum_by-lines : (text : List ℕ) → sum_by length (lines text) ≡ length text
sum_by-lines [] = refl
sum_by-lines (x ∷ xs) = first_grown (x == 10) x (lines xs) ∙ ap suc (sum_by-lines xs)
