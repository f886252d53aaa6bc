-- Functions with another value at one number, under a map.
use Rattle.std.proofs.Common.{ℕ, ◌≡◌, ◌<◌, inl, inr, false, refl, sym, ap, ◌∙◌, arith}
use Rattle.std.proofs.lemmas.Bool.{ne_eqb}
use Rattle.std.specs.Prelude.{◌==◌}
use Rattle.causal_rounds.specs.Rounds.{with_value_at}
use Rattle.causal_rounds.proofs.Lemmas.RoundSteps.{set_at_cases, set_at_here, set_at_away}

-- a function with another value at one number is one that has that value there, and is as before elsewhere
pub set_at_is : {X : Type 0} (f g : ℕ → X) (p : ℕ) (x : X) → g p ≡ x → ((q : ℕ) → (q ≡ p → ⊥) → g q ≡ f q) → (q : ℕ) → with_value_at f p x q ≡ g q
set_at_is f g p x here away q = elim (set_at_cases f p x q) [ inl is ↦ is.1 ∙ sym (ap g is.0 ∙ here) | inr other ↦ other.1 ∙ sym (away q other.0) ]

-- a map of a function with another value is the mapped function with the mapped value
pub map_set_at : {X Y : Type 0} (g : X → Y) (f : ℕ → X) (p : ℕ) (x : X) (q : ℕ) → g (with_value_at f p x q) ≡ with_value_at (λ k. g (f k)) p (g x) q
map_set_at g f p x q = sym (set_at_is (λ k. g (f k)) (λ k. g (with_value_at f p x k)) p (g x) (ap g (set_at_here f p x)) (λ k other. ap g (set_at_away f p x k other)) q)

-- the value that was there changes nothing
pub set_at_same : {X : Type 0} (f : ℕ → X) (p : ℕ) (x : X) (q : ℕ) → f p ≡ x → with_value_at f p x q ≡ f q
set_at_same f p x q was = set_at_is f f p x was (λ k other. refl) q

pub apart_is : (a b : ℕ) → a < b → (a == b) ≡ false
apart_is a b h = ne_eqb a b (λ e. omega (arith, h, e))
