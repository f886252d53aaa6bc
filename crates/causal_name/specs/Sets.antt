-- Sets of processes, as tests of numbers.
-- The members among n processes are the numbers below n that pass the test.
use Rattle.std.specs.Prelude.{◌≡◌, ℕ, zero, suc, ◌+◌, ◌<◌, Bool, true, false, ◌||◌, if◌then◌else◌}

-- how many numbers below n pass
abbrev pub count_below : ℕ → (ℕ → Bool) → ℕ
count_below zero test = 0
count_below (suc n) test = count_below n test + (if test n then 1 else 0)

-- whether some number below n passes
abbrev pub any_below : ℕ → (ℕ → Bool) → Bool
any_below zero test = false
any_below (suc n) test = test n || any_below n test

-- the union of two sets
abbrev pub union_test : (ℕ → Bool) → (ℕ → Bool) → ℕ → Bool
union_test a b p = a p || b p

-- among n processes, the first set is a subset of the second
abbrev pub IsSubsetBelow : ℕ → (ℕ → Bool) → (ℕ → Bool) → Type 0
IsSubsetBelow n a b = (p : ℕ) → p < n → a p ≡ true → b p ≡ true
