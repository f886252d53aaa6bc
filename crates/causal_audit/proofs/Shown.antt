-- How one more entry changes the sets of down processes and of holders.
use Rattle.causal_audit.proofs.Common.{ℕ, ◌≡◌, ◌≤◌, Bool, true, false, List, sym, ap, ◌∙◌, arith, ◌&&◌, ◌||◌, ◌==◌, not, nat_cmp, FinSet, contains, empty, insert, remove, len, contains-empty, nat_tests, count_below, count_below-le, members_counted, Entry, is_down, AreLegalEntries}
use Rattle.causal_holders.specs.Members.{AreProcesses}
use Rattle.causal_holders.proofs.Lemmas.MemberCounts.{len_counted}
use Rattle.causal_audit.specs.Verdicts.{HasMembers}
use Rattle.causal_audit.specs.Inside.DeliveryStates.{HasExactly}
use Rattle.causal_holders.proofs.Lemmas.Sets.{inserted, removed}
use Rattle.causal_trace.proofs.Lemmas.RunProcesses.{down_inside}

-- a member of a difference is in the first set and not in the second
pub parts : (a b : Bool) → (a && not b) ≡ true → (a ≡ true) × (b ≡ false)
parts a b h = grind (arith, nat_tests)

module _ (s : FinSet nat_cmp) (test : ℕ → Bool) (shown : HasExactly s test) (p : ℕ) where
  -- a set that has exactly the numbers of a test still does if p is inserted into both, or removed from both
  pub shows_with : HasExactly (insert s p) (λ q. (p == q) || test q)
  shows_with q = inserted s p q ∙ ap (λ b. (p == q) || b) (shown q)

  pub shows_without : HasExactly (remove s p) (λ q. not (p == q) && test q)
  shows_without q = removed s p q ∙ ap (λ b. not (p == q) && b) (shown q)

  module _ (more : Bool) where
    -- a list with the determinant, and a list without it
    pub shows_listed : more ≡ true → HasExactly (insert s p) (λ q. ((p == q) && more) || test q)
    shows_listed is q = grind (arith, shows_with q, nat_tests)

    pub shows_forgotten : more ≡ true → HasExactly (remove s p) (λ q. not ((p == q) && more) && test q)
    shows_forgotten is q = grind (arith, shows_without q, nat_tests)

-- if no number passes a test, the empty set has exactly its numbers
pub shows_none : (test : ℕ → Bool) → ((p : ℕ) → test p ≡ false) → HasExactly empty test
shows_none test none p = contains-empty nat_cmp p ∙ sym (none p)

-- ---- the down processes as a set

-- a set of exactly the down processes has only processes of the run
pub down_members : (n : ℕ) (past : List Entry) (s : FinSet nat_cmp) → AreLegalEntries n past → HasExactly s (λ p. is_down past p) → HasMembers n s (is_down past)
down_members n past s a shown = record { process = λ p h. down_inside n past p a (sym (shown p) ∙ h); member = λ p low. shown p }

-- the size of a set of exactly the passing numbers is their count
pub counted : (n : ℕ) (s : FinSet nat_cmp) (test : ℕ → Bool) → HasMembers n s test → len s ≡ count_below n test
counted n s test m = members_counted n s test (record { process = m.process; member = m.member })

-- a set of processes has at most 256 members
pub few_members : (s : FinSet nat_cmp) → AreProcesses s → len s ≤ 256
few_members s inside = omega (arith, len_counted 256 s inside, count_below-le 256 (contains s))
