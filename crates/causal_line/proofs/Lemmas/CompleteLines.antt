-- Complete lines, and bytes without a line feed.
use Rattle.std.proofs.Common.{◌≡◌, ℕ, zero, suc, ◌<◌, ◌≤◌, List, [], ◌∷◌, ◌++◌, length, take, true, refl, ap, sym, ◌∙◌, arith, append_assoc, eqb-true}
use Rattle.std.specs.Prelude.{◌==◌}
use Rattle.std.proofs.lemmas.Bool.{false_from_ne_true}
use Rattle.std.proofs.Math.Seq.{take-suc}
use Rattle.memchr.specs.Find.{Nowhere, Passes, is_byte}
use Rattle.causal_line.specs.Lines.{lines, before_first_line, no_feed, IsComplete}

-- bytes in which the search finds no line feed have none
pub no_feed-nowhere : (xs : List ℕ) (n : ℕ) → n ≤ length xs → Nowhere (Passes (is_byte 10) xs) 0 n → no_feed (take n xs) ≡ true
no_feed-nowhere xs zero h none = refl
no_feed-nowhere [] (suc n) h none = refl
no_feed-nowhere (x ∷ xs) (suc n) h none =
    rw (false_from_ne_true (x == 10) (none 0 (omega arith) (omega arith))) (no_feed-nowhere xs n (omega arith) (λ k low high. none (suc k) (omega arith) (omega arith)))

-- bytes up to the first line feed are a complete line
pub complete_at : (xs : List ℕ) (i : ℕ) → i < length xs → Passes (is_byte 10) xs i → Nowhere (Passes (is_byte 10) xs) 0 i → IsComplete (take (suc i) xs)
complete_at xs i h at none = (take i xs, no_feed-nowhere xs i (omega arith) none, take-suc xs i 0 h ∙ ap (λ y. take i xs ++ y ∷ []) (eqb-true _ 10 at))

-- the concatenation of bytes without a line feed has none
pub no_feed-append : (xs ys : List ℕ) → no_feed xs ≡ true → no_feed ys ≡ true → no_feed (xs ++ ys) ≡ true
no_feed-append [] ys p q = q
no_feed-append (x ∷ xs) ys p q = grind (arith, no_feed-append xs ys)

lines_line : (xs rest : List ℕ) → no_feed xs ≡ true → lines (xs ++ 10 ∷ rest) ≡ (xs ++ 10 ∷ []) ∷ lines rest
lines_line [] rest h = refl
lines_line (x ∷ xs) rest h = grind (arith, lines_line xs rest)

-- a complete line in front is the first line
pub lines_complete : (l rest : List ℕ) → IsComplete l → lines (l ++ rest) ≡ l ∷ lines rest
lines_complete l rest h = rw h.2 (ap lines (append_assoc h.0 (10 ∷ []) rest) ∙ lines_line h.0 rest h.1)

-- a partial line and its rest are a complete line
pub IsComplete-append : (xs l : List ℕ) → no_feed xs ≡ true → IsComplete l → IsComplete (xs ++ l)
IsComplete-append xs l h c = (xs ++ c.0, no_feed-append xs c.0 h c.1, ap (λ ys. xs ++ ys) c.2 ∙ sym (append_assoc xs c.0 (10 ∷ [])))

-- more bytes extend a partial line, or complete it
pub lines_grown : (x : ℕ) (xs more : List ℕ) → no_feed (x ∷ xs) ≡ true → (m : List ℕ) × (ls : List (List ℕ)) × (lines ((x ∷ xs) ++ more) ≡ ((x ∷ xs) ++ m) ∷ ls)
lines_grown x [] more h = grown (lines more) (grind arith) where
  grown : (ks : List (List ℕ)) → lines (x ∷ more) ≡ before_first_line x ks → (m : List ℕ) × (ls : List (List ℕ)) × (lines (x ∷ more) ≡ (x ∷ m) ∷ ls)
  grown [] e = ([], [], e)
  grown (k ∷ ks) e = (k, ks, e)
lines_grown x (z ∷ zs) more h = let later = lines_grown z zs more (grind arith) in (later.0, later.1, grind arith)

-- nonempty bytes without a line feed are one line
pub lines_rest : (rest : List ℕ) → no_feed rest ≡ true → 0 < length rest → lines rest ≡ rest ∷ []
lines_rest [] h some = absurd (omega arith)
lines_rest (x ∷ []) h some = grind arith
lines_rest (x ∷ y ∷ ys) h some = grind (arith, lines_rest (y ∷ ys))
