-- The number that a list has for each process, after a change.
use Rattle.std.proofs.Common.{ℕ, zero, suc, ◌≡◌, ◌<◌, List, [], ◌∷◌, length, max, replicate, refl, arith}
use Rattle.std.specs.Prelude.{slice_set}
use Rattle.causal_node.specs.NodeAnswers.{raised_floors}
use Rattle.causal_calls.specs.Views.{numbers}

pub set_other : (xs : List ℕ) (i v q : ℕ) → (q ≡ i → ⊥) → numbers (slice_set xs i v) q ≡ numbers xs q
set_other (x ∷ xs) zero v zero apart = absurd (apart refl)
set_other (x ∷ xs) (suc i) v (suc q) apart = set_other xs i v q (λ e. apart (omega (arith, e)))
set_other _ _ v _ apart = refl

pub set_here : (xs : List ℕ) (i v : ℕ) → i < length xs → numbers (slice_set xs i v) i ≡ v
set_here [] i v low = absurd (omega (arith, low))
set_here (x ∷ xs) zero v low = refl
set_here (x ∷ xs) (suc i) v low = set_here xs i v (omega (arith, low))

pub zeros : (n q : ℕ) → numbers (replicate n 0) q ≡ 0
zeros zero q = refl
zeros (suc n) zero = refl
zeros (suc n) (suc q) = zeros n q

-- floors raised to a view of the same length
pub raised_numbers : (floors view : List ℕ) → length floors ≡ length view → (q : ℕ) → numbers (raised_floors floors view) q ≡ max (numbers floors q) (numbers view q)
raised_numbers [] [] h q = refl
raised_numbers (x ∷ xs) (v ∷ vs) h zero = refl
raised_numbers (x ∷ xs) (v ∷ vs) h (suc q) = raised_numbers xs vs (omega (arith, h)) q
raised_numbers _ _ h q = absurd (omega (arith, h))

pub raised_length : (floors view : List ℕ) → length floors ≡ length view → length (raised_floors floors view) ≡ length floors
raised_length [] view h = refl
raised_length (x ∷ xs) [] h = absurd (omega (arith, h))
raised_length (x ∷ xs) (v ∷ vs) h = omega (arith, raised_length xs vs (omega (arith, h)))
