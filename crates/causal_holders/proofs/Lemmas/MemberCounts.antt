-- Sets of processes as tests, counted below n, and finite sets with the members of a test.
use Rattle.std.proofs.Common.{ℕ, zero, suc, ◌≡◌, ◌+◌, ◌<◌, ◌≤◌, inl, inr, Bool, true, false, cond, refl, sym, ap, ◌∙◌, arith}
use Rattle.std.specs.Prelude.{◌||◌, ◌↔◌}
use Rattle.std.specs.Ordering.{nat_cmp}
use Rattle.std.specs.Cmp.{nat_cmp_total}
use Rattle.std.specs.FinSet.{FinSet, contains, empty, insert, remove, union, is_subset, len, same_set, contains-empty, contains-union, is_subset-contains, contains-is_subset, len-empty, len-remove, nat_cmp-IsAntisymmetric}
use Rattle.std.proofs.lemmas.Bool.{false≢true, cases_Bool, or_right}
use Rattle.std.proofs.lemmas.Bool.Decides.{nat_tests}
use Rattle.causal_name.specs.Sets.{count_below, any_below, union_test, IsSubsetBelow}
use Rattle.causal_holders.specs.Members.{HasMembers}
use Rattle.causal_holders.proofs.Lemmas.Sets.{inserted, removed, some_member}

-- ---- tests

-- tests that agree below n count the same
pub count_below-same : (n : ℕ) (a b : ℕ → Bool) → ((q : ℕ) → q < n → a q ≡ b q) → count_below n a ≡ count_below n b
count_below-same zero a b h = refl
count_below-same (suc n) a b h = λ i. count_below-same n a b (λ q below. h q (omega (arith, below))) i + cond (h n (omega arith) i) 1 0

-- a subset has no more members
pub count_below-within : (n : ℕ) (a b : ℕ → Bool) → IsSubsetBelow n a b → count_below n a ≤ count_below n b
count_below-within zero a b h = omega arith
count_below-within (suc n) a b h = grind (arith, count_below-within n a b, h n)

-- one bit counts at most 1
pub at_most_one : (x : Bool) → cond x 1 0 ≤ 1
at_most_one true = omega arith
at_most_one false = omega arith

-- the count is at most n
pub count_below-le : (n : ℕ) (a : ℕ → Bool) → count_below n a ≤ n
count_below-le zero a = omega arith
count_below-le (suc n) a = omega (arith, count_below-le n a, at_most_one (a n))

-- if some number passes, there is one that passes
pub any_below-found : (n : ℕ) (test : ℕ → Bool) → any_below n test ≡ true → (p : ℕ) × (p < n) × (test p ≡ true)
any_below-found zero test h = absurd (false≢true h)
any_below-found (suc n) test h = grind (arith, any_below-found n test)

-- if one number passes, some number does
pub any_below-from : (n : ℕ) (test : ℕ → Bool) (p : ℕ) → p < n → test p ≡ true → any_below n test ≡ true
any_below-from zero test p below h = absurd (omega (arith, below))
any_below-from (suc n) test p below h = grind (arith, any_below-from n test p, or_right)

-- if no number passes, the count is 0
pub count_below-none : (n : ℕ) (test : ℕ → Bool) → ((q : ℕ) → q < n → test q ≡ false) → count_below n test ≡ 0
count_below-none zero test h = refl
count_below-none (suc n) test h = grind (arith, count_below-none n test, h n)

-- a set of numbers below n has as many members as numbers below n pass its test
pub len_counted : (n : ℕ) (s : FinSet nat_cmp) → ((q : ℕ) → contains s q ≡ true → q < n) → len s ≡ count_below n (contains s)
len_counted zero s below =
    ap len (same_set nat_cmp_total nat_cmp-IsAntisymmetric s empty (λ q. grind (arith, below q, contains-empty))) ∙ len-empty nat_cmp
len_counted (suc n) s below =
    elim (cases_Bool (contains s n)) [
      | inl here ↦
          let same = count_below-same n (contains (remove s n)) (contains s) (λ q low. grind (arith, nat_tests, removed s n q)) in
          grind (arith, len_counted n (remove s n) (λ q h. grind (arith, nat_tests, removed s n q, below q)), same, len-remove nat_cmp_total s n, some_member s n here)
      | inr gone ↦ grind (arith, len_counted n s (λ q h. grind (arith, nat_tests, below q h)))
    ]

-- a set with the members of a test has as many members as pass
pub members_counted : (n : ℕ) (s : FinSet nat_cmp) (a : ℕ → Bool) → HasMembers n s a → len s ≡ count_below n a
members_counted n s a m = len_counted n s m.process ∙ count_below-same n (contains s) a m.member

-- the union of two sets has the members of the union of their tests
pub union_members : (n : ℕ) (s t : FinSet nat_cmp) (a b : ℕ → Bool) → HasMembers n s a → HasMembers n t b → HasMembers n (union s t) (union_test a b)
union_members n s t a b m k = record {
  process = λ p h. grind (arith, m.process p, k.process p, contains-union nat_cmp_total s t p);
  member = λ p h. contains-union nat_cmp_total s t p ∙ (λ i. m.member p h i || k.member p h i);
}

-- of two sets with the members of tests, one is a subset of the other if and only if its test is within the other's
pub is_subset_members : (n : ℕ) (s t : FinSet nat_cmp) (a b : ℕ → Bool) → HasMembers n s a → HasMembers n t b → (is_subset s t ≡ true) ↔ IsSubsetBelow n a b
is_subset_members n s t a b m k = (
  λ h p below passes. sym (k.member p below) ∙ is_subset-contains nat_cmp_total s t h p (m.member p below ∙ passes),
  λ h. contains-is_subset nat_cmp_total s t (λ p in_s. k.member p (m.process p in_s) ∙ h p (m.process p in_s) (sym (m.member p (m.process p in_s)) ∙ in_s)),
)

-- ---- the members of a test, number by number

-- for no processes the empty set contains exactly those that pass
pub none_in : (s : FinSet nat_cmp) (test : ℕ → Bool) → s ≡ empty → HasMembers 0 s test
none_in s test is = grind (arith, contains-empty)

module _ (n : ℕ) (s : FinSet nat_cmp) (test : ℕ → Bool) (m : HasMembers n s test) where
  -- a process that passes is inserted
  pub one_in : test n ≡ true → HasMembers (n + 1) (insert s n) test
  one_in is = grind (arith, inserted)

  -- a process that does not pass is left out
  pub one_out : test n ≡ false → HasMembers (n + 1) s test
  one_out is = grind arith
