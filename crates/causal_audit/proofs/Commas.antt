-- Numbers joined by commas, from their decimal texts.
use Rattle.std.proofs.Common.{◌≡◌, ◌<◌, ◌++◌, ◌∙◌, ℕ, List, [], ◌∷◌, length, map, refl, ap, sym, arith, codes}
use Rattle.std.specs.Fmt.{decimal}
use Rattle.std.specs.List.{join_by}
use Rattle.std.proofs.lemmas.List.{map-append, append_assoc}
use Rattle.std.proofs.lemmas.List.Folds.{flat_map-map}
use Rattle.causal_audit.specs.VerdictLines.{joined_by_commas}

join_by-map : {X : Type 0} (f : X → List ℕ) (sep : List ℕ) (xs : List X) → join_by f sep xs ≡ join_by (λ y. y) sep (map f xs)
join_by-map f sep [] = refl
join_by-map f sep (x ∷ xs) = ap (λ rest. f x ++ rest) (sym (flat_map-map (λ bs. sep ++ bs) f xs))

-- the texts are those of the numbers, and there is at least one
pub join_by-decimal : {X : Type 0} (f : X → List ℕ) (xs : List X) (ps : List ℕ) → map f xs ≡ map decimal ps → 0 < length xs → join_by f (codes ",") xs ≡ joined_by_commas ps
join_by-decimal f [] ps same some = absurd (omega arith)
join_by-decimal f (x ∷ xs) [] same some = absurd (let e : length (map f (x ∷ xs)) ≡ 0 = ap length same in omega arith)
join_by-decimal f (x ∷ xs) (p ∷ ps) same some =
    join_by-map f (codes ",") (x ∷ xs) ∙ ap (λ texts. join_by (λ y. y) (codes ",") texts) same ∙ sym (join_by-map decimal (codes ",") (p ∷ ps))

-- before the first text is written
pub written-none : {S X : Type 0} (order : S → List ℕ) (f : X → List ℕ) (xs : List X) (rest all : S) → xs ≡ [] → rest ≡ all → map f xs ++ map decimal (order rest) ≡ map decimal (order all)
written-none order f xs rest all none same = rw (none, same) refl

-- after one more text, that of the next number, is written
pub written-next : {S X : Type 0} (order : S → List ℕ) (f : X → List ℕ) (xs ys : List X) (x : X) (p : ℕ) (rest next all : S)
    → map f xs ++ map decimal (order rest) ≡ map decimal (order all) → order rest ≡ p ∷ order next → f x ≡ decimal p → ys ≡ xs ++ x ∷ []
    → map f ys ++ map decimal (order next) ≡ map decimal (order all)
written-next order f xs ys x p rest next all before first text more =
    grind (arith, map-append f xs (x ∷ []), append_assoc (map f xs) (f x ∷ []) (map decimal (order next)))
