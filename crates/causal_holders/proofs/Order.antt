-- The members of a set in ascending order, and the least of them.
use Rattle.std.specs.Prelude.{List, ◌≡◌, ◌≢◌, ℕ, ◌+◌, ◌<◌, ◌≤◌, Bool, true, false, if◌then◌else◌, nat_eq, [], ◌∷◌, filter, length, count_by}
use Rattle.std.proofs.Common.{zero, suc, refl, arith, ap, sym, ◌∙◌, inl, inr}
use Rattle.std.specs.List.{list_any, range_with_len}
use Rattle.std.specs.List.Sorted.{IsStrictlyIncreasing}
use Rattle.std.proofs.lemmas.List.Kept.{IsStrictlyIncreasing-filter}
use Rattle.std.proofs.lemmas.List.Sums.{length-filter}
use Rattle.std.proofs.lemmas.List.FromFn.{length-range_with_len, get_or-range_with_len, sum_by-map-range_with_len_more}
use Rattle.std.proofs.lemmas.List.{map-id}
use Rattle.causal_name.specs.Sets.{count_below}
use Rattle.causal_holders.proofs.Lemmas.MemberCounts.{len_counted}
use Rattle.std.specs.Ordering.{nat_cmp}
use Rattle.std.specs.FinSet.{FinSet, empty, remove, contains, len, contains-empty}
use Rattle.std.proofs.lemmas.Bool.Decides.{nat_tests, eqb_tells}
use Rattle.std.proofs.lemmas.Bool.{false_from_ne_true}
use Rattle.std.proofs.lemmas.List.Folds.{list_any_at}
use Rattle.std.proofs.lemmas.Map.Views.{any-filter_same}
use Rattle.causal_holders.proofs.Lemmas.Sets.{removed}
use Rattle.causal_holders.specs.Members.{ascending, IsLeast, AreProcesses}

-- f passes `first` before any other number, and g is f without it
first_passing : (start n first : ℕ) (f g : ℕ → Bool) → start ≤ first → first < start + n → f first ≡ true → g first ≡ false → ((k : ℕ) → k < first → f k ≡ false) → ((k : ℕ) → k ≢ first → g k ≡ f k)
    → filter f (range_with_len start n) ≡ first ∷ filter g (range_with_len start n)
first_passing start zero first f g from below here gone before same = absurd (omega arith)
first_passing start (suc n) first f g from below here gone before same =
    elim (eqb_tells first start) [
      | inl e ↦ grind (arith, passing_from-same (start + 1) n f g (λ k above. sym (same k (omega arith))))
      | inr e ↦ grind (arith, before start, same start, first_passing (start + 1) n first f g (omega (arith, e.1)) (omega arith) here gone before same)
    ]
  where
    passing_from-same : (start n : ℕ) (f g : ℕ → Bool) → ((k : ℕ) → start ≤ k → f k ≡ g k) → filter f (range_with_len start n) ≡ filter g (range_with_len start n)
    passing_from-same start zero f g h = refl
    passing_from-same start (suc n) f g h = grind (arith, h start, passing_from-same (start + 1) n f g (λ k above. h k (omega arith)))

-- the empty set has an empty list of members
pub ascending-empty : ascending empty ≡ []
ascending-empty = none_passing (range_with_len 0 256)
  where
    none_passing : (xs : List ℕ) → filter (contains (empty {R = nat_cmp})) xs ≡ []
    none_passing [] = refl
    none_passing (x ∷ xs) = grind (arith, contains-empty, none_passing xs)

-- the least member comes first, then the others
pub ascending-least : (s : FinSet nat_cmp) (p : ℕ) → p < 256 → IsLeast s p → ascending s ≡ p ∷ ascending (remove s p)
ascending-least s p below least =
    first_passing 0 256 p (contains s) (contains (remove s p)) (omega arith) (omega arith) least.0
    (grind (arith, nat_tests, removed s p p))
    (λ k lower. false_from_ne_true (contains s k) (λ h. absurd (omega (arith, least.1 k h))))
    (λ k other. grind (arith, nat_tests, removed s p k))

-- ---- membership in the list

listed : (n : ℕ) (f : ℕ → Bool) (q : ℕ) → q < n → list_any (nat_eq q) (filter f (range_with_len 0 n)) ≡ f q
listed n f q h =
    any-filter_same (nat_eq q) f (f q) (λ k same. grind (arith, nat_tests)) (range_with_len 0 n)
    ∙ grind (arith, nat_tests, list_any_at (nat_eq q) (range_with_len 0 n) q 0, get_or-range_with_len 0 n q 0 h, length-range_with_len 0 n)

-- the list has exactly the members below 256
pub ascending-members : (s : FinSet nat_cmp) (q : ℕ) → q < 256 → list_any (nat_eq q) (ascending s) ≡ contains s q
ascending-members s = listed 256 (contains s)

-- ---- order and length of the list

-- the list strictly ascends
pub ascending-rises : (s : FinSet nat_cmp) → IsStrictlyIncreasing (ascending s)
ascending-rises s = IsStrictlyIncreasing-filter (contains s) (range_with_len 0 256) (λ k h.
    let below : k + 1 < 256 = omega (arith, h, length-range_with_len 0 256) in
    omega (arith, get_or-range_with_len 0 256 k 0 (omega (arith, below)), get_or-range_with_len 0 256 (k + 1) 0 below))

counted_below : (n : ℕ) (test : ℕ → Bool) → count_by test (range_with_len 0 n) ≡ count_below n test
counted_below zero test = refl
counted_below (suc n) test =
    let next = sum_by-map-range_with_len_more (λ k. if test k then 1 else 0) (λ k. k) 0 n n (omega arith) in
    ap (λ k. count_by test (range_with_len 0 k)) (let same : suc n ≡ n + 1 = omega arith in same) ∙ (simp map-id at next) ∙ omega (arith, counted_below n test)

-- the list is as long as the set
pub length-ascending : (s : FinSet nat_cmp) → AreProcesses s → length (ascending s) ≡ len s
length-ascending s inside =
    length-filter (contains s) (range_with_len 0 256) ∙ counted_below 256 (contains s) ∙ sym (len_counted 256 s inside)
