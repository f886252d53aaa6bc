-- Finite sets of numbers: subsets, differences, members and lengths.
use Rattle.std.specs.Prelude.{◌≡◌, ℕ, ◌<◌, ◌≤◌, ◌⊎◌, true, not, ◌&&◌, ◌||◌, ◌==◌, List, [], ◌∷◌}
use Rattle.std.proofs.Common.{zero, suc, refl, arith, ap, inl, inr}
use Rattle.std.specs.Ordering.{nat_cmp}
use Rattle.std.specs.Cmp.{nat_cmp_total}
use Rattle.std.specs.FinSet.{FinSet, empty, empty_of_len, insert, remove, items, is_subset, len, contains, contains-empty, contains-items, contains-insert, contains-remove, same_set, nat_cmp-IsAntisymmetric, len-remove, len-empty, is_subset-contains, contains-is_subset}
use Rattle.std.proofs.lemmas.Bool.Decides.{nat_tests}

-- the members of a set after p is inserted
pub inserted : (s : FinSet nat_cmp) (p q : ℕ) → contains (insert s p) q ≡ ((p == q) || contains s q)
inserted s p q = grind (arith, nat_tests, contains-insert, nat_cmp_total)

-- the members of a set after p is removed
pub removed : (s : FinSet nat_cmp) (p q : ℕ) → contains (remove s p) q ≡ (not (p == q) && contains s q)
removed s p q = grind (arith, nat_tests, contains-remove, nat_cmp_total)

-- a set is empty or has a member
pub empty_or_member : (s : FinSet nat_cmp) → (s ≡ empty) ⊎ ((x : ℕ) × (contains s x ≡ true))
empty_or_member s = go (items s) refl
  where
    go : (xs : List ℕ) → items s ≡ xs → (s ≡ empty) ⊎ ((x : ℕ) × (contains s x ≡ true))
    go [] e = inl (same_set nat_cmp_total nat_cmp-IsAntisymmetric s empty (λ q. grind (arith, contains-items s q, contains-empty)))
    go (x ∷ xs) e = inr (x, grind (arith, contains-items s x, nat_tests))

-- a subset remains one after a number is removed from both sets
subset_remove : (s t : FinSet nat_cmp) (x : ℕ) → is_subset s t ≡ true → is_subset (remove s x) (remove t x) ≡ true
subset_remove s t x h = contains-is_subset nat_cmp_total _ _ (λ q in_s. grind (arith, removed, is_subset-contains nat_cmp_total s t h q))

-- a set with a member has a length other than 0
pub some_member : (t : FinSet nat_cmp) (x : ℕ) → contains t x ≡ true → 0 < len t
some_member t x h = grind (arith, empty_of_len t, contains-empty)

-- a subset has no more members: induction on its length
len_le : (n : ℕ) (s t : FinSet nat_cmp) → len s ≡ n → is_subset s t ≡ true → len s ≤ len t
len_le zero s t e h = omega arith
len_le (suc n) s t e h =
    elim (empty_or_member s) [
      | inl none ↦ absurd (omega (arith, ap (λ (x : FinSet nat_cmp). len x) none, len-empty nat_cmp))
      | inr some ↦ grind (arith, len_le n (remove s some.0) (remove t some.0), subset_remove s t some.0 h, len-remove, nat_cmp_total, some_member, is_subset-contains nat_cmp_total s t h some.0 some.1)
    ]

-- a subset has no more members
pub len-is_subset : (s t : FinSet nat_cmp) → is_subset s t ≡ true → len s ≤ len t
len-is_subset s t h = len_le (len s) s t refl h
