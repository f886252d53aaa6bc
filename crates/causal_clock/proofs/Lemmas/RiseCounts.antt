-- The count of rises at a place.
use Rattle.std.specs.Prelude.{◌≡◌, ℕ, ◌<◌, ◌≤◌, ◌⊎◌, List, [], ◌∷◌, length}
use Rattle.std.proofs.Common.{zero, suc, refl, arith, inl, inr}
use Rattle.causal_clock.specs.declared.Rise.{Rise}
use Rattle.causal_clock.specs.Rises.{rise_at, count_at}

-- the count at a place is at least that of each rise at or before it
pub rise_counts : (rises : List Rise) (place i : ℕ) → i < length rises → (rise_at rises i).place ≤ place → (rise_at rises i).count ≤ count_at rises place
rise_counts [] place i lt le = absurd (omega arith)
rise_counts (r ∷ rises) place zero lt le = grind arith
rise_counts (r ∷ rises) place (suc i) lt le = omega (arith, rise_counts rises place i (omega arith) le)

-- the count is that of some rise at or before the place
pub record IsCountOf (rises : List Rise) (place count i : ℕ) : Type 0 where
  -- the rise is one of them
  pub within : i < length rises
  -- it is at or before the place
  pub reached : (rise_at rises i).place ≤ place
  -- its count is the count at the place
  pub count_is : count ≡ (rise_at rises i).count

-- the count with one more rise before the others is theirs, or that of the rise
first_or_rest : (r : Rise) (rises : List Rise) (place : ℕ) → (count_at (r ∷ rises) place ≡ count_at rises place) ⊎ ((r.place ≤ place) × (count_at (r ∷ rises) place ≡ r.count))
first_or_rest r rises place = grind arith

-- a count is 0, or that of some rise at or before the place
pub count_risen : (rises : List Rise) (place : ℕ) → (count_at rises place ≡ 0) ⊎ ((i : ℕ) × IsCountOf rises place (count_at rises place) i)
count_risen [] place = inl refl
count_risen (r ∷ rises) place =
    elim (first_or_rest r rises place) [
      | inl is ↦ elim (count_risen rises place) [
        | inl none ↦ inl (omega (arith, is, none))
        | inr some ↦ inr (suc some.0, record { within = omega (arith, some.1.within); reached = some.1.reached; count_is = omega (arith, is, some.1.count_is) })
      ]
      | inr here ↦ inr (0, record { within = omega arith; reached = here.0; count_is = here.1 })
    ]
