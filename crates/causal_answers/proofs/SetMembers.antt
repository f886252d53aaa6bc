-- A list made of a set's members, one after another.
use Rattle.std.proofs.Common.{◌≡◌, ◌++◌, ◌∙◌, ℕ, List, [], ◌∷◌, ap, refl, sym, append_assoc}

-- before the first member itself the list is empty
pub listed-none : {S : Type 0} (order : S → List ℕ) (made : List ℕ) (rest all : S) → made ≡ [] → rest ≡ all → made ++ order rest ≡ order all
listed-none order made rest all none same = rw (none, same) refl

-- after the next member the list has its value too
pub listed-next : {S : Type 0} (order : S → List ℕ) (made next-made all : List ℕ) (p : ℕ) (rest next : S)
    → made ++ order rest ≡ all → order rest ≡ p ∷ order next → next-made ≡ made ++ p ∷ [] → next-made ++ order next ≡ all
listed-next order made next-made all p rest next before first more =
    rw more (append_assoc made (p ∷ []) (order next) ∙ sym (ap (λ (ps : List ℕ). made ++ ps) first) ∙ before)
