-- A list made of a set's members, one after another.
use Rattle.std.proofs.Common.{◌≡◌, ◌++◌, ◌∙◌, ℕ, List, [], ◌∷◌, map, ap, sym, append_assoc}

-- after the next member the list has its value too
pub made-next : {S A : Type 0} (order : S → List ℕ) (f : ℕ → A) (made next-made all : List A) (p : ℕ) (rest next : S)
    → made ++ map f (order rest) ≡ all → order rest ≡ p ∷ order next → next-made ≡ made ++ f p ∷ []
    → next-made ++ map f (order next) ≡ all
made-next {S} {A} order f made next-made all p rest next before first more =
    ap (λ (xs : List A). xs ++ map f (order next)) more ∙ append_assoc made (f p ∷ []) (map f (order next)) ∙ sym (ap (λ (ps : List ℕ). made ++ map f ps) first) ∙ before
