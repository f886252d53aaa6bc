-- Texts that are appended one after another.
use Rattle.std.proofs.Common.{◌≡◌, ◌++◌, ◌∙◌, List, ℕ, ap, append_assoc}

-- y is x with a text appended
abbrev pub IsLonger : List ℕ → List ℕ → Type 0
IsLonger x y = (added : List ℕ) × (y ≡ x ++ added)

-- a text after another
pub then : (x y z : List ℕ) → IsLonger x y → IsLonger y z → IsLonger x z
then x y z (a, first) (b, last) = (a ++ b, last ∙ (ap (λ t. t ++ b) first ∙ append_assoc x a b))
