-- Sets of processes that grow member by member, and their sizes.
use Rattle.std.proofs.Common.{◌≡◌, ℕ, ◌+◌, ◌≤◌, Bool, suc, refl, arith}
use Rattle.std.specs.Prelude.{if◌then◌else◌}
use Rattle.std.specs.Ordering.{nat_cmp}
use Rattle.std.specs.FinSet.{FinSet, contains, contains-empty, empty, insert, len}
use Rattle.causal_name.specs.Sets.{count_below}
use Rattle.causal_holders.specs.Members.{AreProcesses, numbers_below}
use Rattle.causal_holders.proofs.Lemmas.MemberCounts.{count_below-le, len_counted}
use Rattle.causal_holders.proofs.Lemmas.Sets.{inserted, removed}

-- the members of a set, and of one that grows or shrinks by one
pub ruleset members = (contains-empty, inserted, removed)

-- the next number is a member if it passes
pub next_number : (n : ℕ) (test : ℕ → Bool) → numbers_below (n + 1) test ≡ (if test n then insert (numbers_below n test) n else numbers_below n test)
unfolding numbers_below
next_number n test = let e : n + 1 ≡ suc n = omega arith in rw e refl

-- no number is below 0
pub no_number : (test : ℕ → Bool) → numbers_below 0 test ≡ empty
unfolding numbers_below
no_number test = refl

-- the number of members below p is at most p
pub rank_small : (p : ℕ) (test : ℕ → Bool) → count_below p test ≤ p
rank_small p test = count_below-le p test

-- a set of processes has at most 256 members
pub rows_few : (s : FinSet nat_cmp) → AreProcesses s → len s ≤ 256
rows_few s processes = rw (len_counted 256 s processes) (count_below-le 256 (contains s))
