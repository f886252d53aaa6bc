-- Members of a set of processes: the members of a test, the least one, the ascending list.
use Rattle.std.specs.Prelude.{◌≡◌, ℕ, ◌<◌, ◌≤◌, Bool, true, if◌then◌else◌, List, filter}
use Rattle.std.proofs.Common.{zero, suc}
use Rattle.std.specs.List.{range_with_len}
use Rattle.std.specs.Ordering.{nat_cmp}
use Rattle.std.specs.FinSet.{FinSet, contains, empty, insert}
use Rattle.causal_holders.specs.declared.TheConstants.{PROCESSES}

-- each member is the number of a process
abbrev pub AreProcesses : FinSet nat_cmp → Type 0
AreProcesses s = (p : ℕ) → contains s p ≡ true → p < PROCESSES

-- the members are exactly the processes below n that pass the test
pub record HasMembers (n : ℕ) (s : FinSet nat_cmp) (test : ℕ → Bool) : Type 0 where
  pub process : (p : ℕ) → contains s p ≡ true → p < n
  pub member : (p : ℕ) → p < n → contains s p ≡ test p

-- a member with no smaller one
abbrev pub IsLeast : FinSet nat_cmp → ℕ → Type 0
IsLeast s p = (contains s p ≡ true) × ((q : ℕ) → contains s q ≡ true → p ≤ q)

-- the list of the members, ascending
abbrev pub ascending : FinSet nat_cmp → List ℕ
ascending s = filter (contains s) (range_with_len 0 PROCESSES)

-- the set of the numbers below n that pass the test
unfoldable pub numbers_below : ℕ → (ℕ → Bool) → FinSet nat_cmp
numbers_below zero test = empty
numbers_below (suc n) test = if test n then insert (numbers_below n test) n else numbers_below n test
