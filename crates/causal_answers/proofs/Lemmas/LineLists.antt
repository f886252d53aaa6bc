-- The lines of items, one after another.
use Rattle.std.proofs.Common.{◌≡◌, ◌+◌, ◌<◌, ◌++◌, List, [], ◌∷◌, ℕ, length, take, get_or, refl, sym, subst, append_assoc}
use Rattle.std.proofs.lemmas.List.{append-nil, take_more}
use Rattle.causal_answers.specs.Lines.{AreLines}

-- one more line makes up one more item
pub lines-more : {X : Type 0} (IsLine : X → List ℕ → Type 0) (xs : List X) (x : X) (text line : List ℕ) → AreLines IsLine xs text → IsLine x line → AreLines IsLine (xs ++ (x ∷ [])) (text ++ line)
lines-more IsLine [] x text line none is = (line, [], is, refl, rw none (sym (append-nil line)))
lines-more IsLine (y ∷ xs) x text line (first, rest, here, there, whole) is =
    (first, rest ++ line, here, lines-more IsLine xs x rest line there is, rw whole (append_assoc first rest line))

-- the line of the next item, after those of the items before it
pub line_added : {X : Type 0} (IsLine : X → List ℕ → Type 0) (xs : List X) (i : ℕ) (d : X) (x y z : List ℕ) → i < length xs
    → ((text : List ℕ) × AreLines IsLine (take i xs) text × (y ≡ x ++ text)) → ((line : List ℕ) × IsLine (get_or xs i d) line × (z ≡ y ++ line))
    → (text : List ℕ) × AreLines IsLine (take (i + 1) xs) text × (z ≡ x ++ text)
line_added IsLine xs i d x y z within (text, each, first) (line, is, last) = (
  text ++ line,
  subst (λ ys. AreLines IsLine ys (text ++ line)) (sym (take_more xs i d within)) (lines-more IsLine (take i xs) (get_or xs i d) text line each is),
  rw (last, first) (append_assoc x text line),
)
