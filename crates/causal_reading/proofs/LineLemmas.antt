-- Bytes that are split after a complete line.
use Rattle.std.proofs.Common.{arith, inl, inr, ◌≡◌, ◌-◌, ◌+◌, ℕ, List, [], ◌∷◌, ◌++◌, length, take, drop, ap, sym, refl, ◌∙◌, append_assoc, append-nil, length-append}
use Rattle.std.specs.Prelude.{◌==◌}
use Rattle.std.proofs.lemmas.Bool.{cases_Bool}
use Rattle.std.proofs.Math.Seq.{take-append_seam, drop-append_seam}
use Rattle.causal_line.specs.Lines.{lines, IsComplete}
use Rattle.causal_line.proofs.Lemmas.CompleteLines.{lines_complete}

-- the first of the lines that end in a complete line, and the others; more lines follow them
lines_behind : (xs l rest : List ℕ) → IsComplete l → (k : List ℕ) × (ks : List (List ℕ)) × (lines (xs ++ l) ≡ k ∷ ks) × (lines (xs ++ (l ++ rest)) ≡ k ∷ (ks ++ lines rest))
lines_behind [] l rest h = (l, [], ap lines (sym (append-nil l)) ∙ lines_complete l [] h, lines_complete l rest h)
lines_behind (x ∷ xs) l rest h = let r = lines_behind xs l rest h in elim (cases_Bool (x == 10)) [
  | inl is ↦ (x ∷ [], r.0 ∷ r.1, rw (is, r.2) refl, rw (is, r.3) refl)
  | inr is ↦ (x ∷ r.0, r.1, rw (is, r.2) refl, rw (is, r.3) refl)
]

-- the lines up to a complete line, and those behind it
lines_cut : (xs l rest : List ℕ) → IsComplete l → lines (xs ++ (l ++ rest)) ≡ lines (xs ++ l) ++ lines rest
lines_cut xs l rest h = let r = lines_behind xs l rest h in r.3 ∙ ap (λ ls. ls ++ lines rest) (sym r.2)

-- the two parts, if the first ends with a complete line
pub split_there : (bytes xs l after front rest : List ℕ) (n : ℕ) → IsComplete l → bytes ≡ xs ++ (l ++ after) → n ≡ length bytes - length after → front ≡ take n bytes → rest ≡ drop n bytes → lines bytes ≡ lines front ++ lines rest
split_there bytes xs l after front rest n complete whole at first second =
    let joined : bytes ≡ (xs ++ l) ++ after = whole ∙ sym (append_assoc xs l after) in
    let size : length bytes ≡ length (xs ++ l) + length after = ap length joined ∙ length-append (xs ++ l) after in
    let here : n ≡ length (xs ++ l) = omega (arith, at, size) in
    rw (first, second, here, joined, take-append_seam (xs ++ l) after, drop-append_seam (xs ++ l) after, append_assoc xs l after) (lines_cut xs l after complete)
