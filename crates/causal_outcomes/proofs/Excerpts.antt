-- One line more of a text.
use Rattle.std.proofs.Common.{◌≡◌, ◌+◌, ℕ, zero, suc, List, [], ◌∷◌, drop, ap, add-one}

next : {X : Type 0} (xs ys : List X) (n : ℕ) → drop n xs ≡ ys → drop (suc n) xs ≡ drop 1 ys
next [] ys zero is = ap (drop 1) is
next [] ys (suc n) is = ap (drop 1) is
next (x ∷ xs) ys zero is = ap (drop 1) is
next (x ∷ xs) ys (suc n) is = next xs ys n is

-- what follows one more item
pub one_more : {X : Type 0} (xs ys : List X) (n : ℕ) → drop n xs ≡ ys → drop (n + 1) xs ≡ drop 1 ys
one_more xs ys n is = rw add-one (next xs ys n is)
