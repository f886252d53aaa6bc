-- How many processes are down, and the restarts by the number that are down after them.
use Rattle.causal_audit.proofs.Common.{ℕ, zero, suc, ◌≡◌, ◌+◌, ◌<◌, ◌≤◌, inl, inr, Bool, true, false, List, [], ◌∷◌, length, Some, refl, ap, subst, ◌∙◌, arith, not, ◌==◌, ◌&&◌, Contains, All, ne_eqb, or_right, eqb_tells, count_below, count_below-within, Entry, Crash, Restart, Pid, Det, instant, entry_at, is_down, AreLegalEntries, instants_stay, one_more_instant}
use Rattle.causal_name.specs.Sets.{union_test}
use Rattle.causal_holders.proofs.Lemmas.MemberCounts.{count_below-same, at_most_one}
use Rattle.std.proofs.lemmas.Bool.Decides.{nat_tests}
use Rattle.causal_audit.specs.Inside.Index.Falls.{AreFalls}
use Rattle.causal_audit.specs.Inside.Index.Lists.{Ascends, list_at, with_added}
use Rattle.causal_audit.specs.Inside.PositionLists.{HasNoneUntil}
use Rattle.causal_audit.proofs.by_clock.Begun.{onward_to}
use Rattle.causal_audit.proofs.index.Filings.{added_has, added_keeps, added_ascend, ascend_weaker, empty_ascend}
use Rattle.causal_audit.proofs.safety_scan.CoverStays.{entry_then}
use Rattle.causal_audit.proofs.Steps.{entry_cases, entry_within}

-- ---- counts

-- without one number a count is at most one less
pub one_fewer : (n : ℕ) (test : ℕ → Bool) (w : ℕ) → count_below n test ≤ count_below n (λ p. not (w == p) && test p) + 1
one_fewer zero test w = omega arith
one_fewer (suc n) test w =
    grind (arith, eqb_tells w n, count_below-same n test (λ p. not (w == p) && test p), ne_eqb, at_most_one (test n), one_fewer n test w)

-- the union of disjoint sets has as many members as both together
pub disjoint_counted : (n : ℕ) (a b : ℕ → Bool) → ((p : ℕ) → a p ≡ true → b p ≡ false) → count_below n (union_test a b) ≡ count_below n a + count_below n b
disjoint_counted zero a b apart = refl
disjoint_counted (suc n) a b apart = grind (arith, nat_tests, disjoint_counted n a b apart, apart n)

-- ---- the lists, with one more entry

module _ (e : Entry) (past : List Entry) (lists : List (List ℕ)) (are : AreFalls past lists) where
  old_listed : (n v : ℕ) (who : Pid) (listed : List Det) → AreLegalEntries n (e ∷ past) → entry_at past v ≡ Some (Restart who listed)
      → (Contains (list_at lists (count_below n (is_down (instant (e ∷ past) (v + 1))))) v → ⊥) → ⊥
  old_listed n v who listed legal at absent = grind (arith, are.all n v who listed legal.0 at, instants_stay e past (v + 1), entry_within past v (Restart who listed) at)

  -- an entry that is no restart
  pub falls_same : ((who : Pid) (listed : List Det) → e ≡ Restart who listed → ⊥) → AreFalls (e ∷ past) lists
  falls_same none =
      let ascend : All (Ascends (length (e ∷ past))) lists = ascend_weaker _ _ lists (omega arith) are.ascend in
      grind (arith, ascend, entry_cases, old_listed)

  -- an entry after which so many are down
  pub falls_more : (c : ℕ) → ((n : ℕ) → AreLegalEntries n (e ∷ past) → count_below n (is_down (e ∷ past)) ≡ c) → c < length lists → AreFalls (e ∷ past) (with_added lists c (length past))
  falls_more c counts there = record {
    ascend = added_ascend lists c (length past) there _ _ (omega arith) (omega arith) are.ascend;
    all = λ n v who listed legal at absent. elim (entry_cases e past v (Restart who listed) at) [
      | inl old ↦ old_listed n v who listed legal old (λ list_has. absent (added_keeps lists c (length past) there (count_below n (is_down (instant (e ∷ past) (v + 1)))) v list_has))
      | inr new ↦
          let here : count_below n (is_down (instant (e ∷ past) (v + 1))) ≡ c = ap (λ w. count_below n (is_down (instant (e ∷ past) (w + 1)))) new.0 ∙ ap (λ x. count_below n (is_down x)) (one_more_instant e past) ∙ counts n legal in
          absent (rw (here, new.0) (added_has lists c (length past) there))
    ];
  }

-- empty lists are correct for no entries
pub falls_of_none : (lists : List (List ℕ)) → All (λ list. list ≡ []) lists → AreFalls [] lists
falls_of_none lists all = grind (arith, empty_ascend)

-- the instant after an entry
pub entry_next : (past : List Entry) (v : ℕ) (e : Entry) → entry_at past v ≡ Some e → instant past (v + 1) ≡ e ∷ instant past v
entry_next past v e at = entry_then past v e (entry_within past v e at) at

-- ---- until a restart leaves only so many down, more are down

as_many : (n c : ℕ) (e : Entry) (past : List Entry) → c < count_below n (is_down past) → ((p : ℕ) → is_down past p ≡ true → is_down (e ∷ past) p ≡ true) → c < count_below n (is_down (e ∷ past))
as_many n c e past more still = omega (arith, more, count_below-within n (is_down past) (is_down (e ∷ past)) (λ p low h. still p h))

one_entry_more : (n c : ℕ) (e : Entry) (past : List Entry) → c < count_below n (is_down past) → ((who : Pid) (listed : List Det) → e ≡ Restart who listed → count_below n (is_down (e ∷ past)) ≡ c → ⊥) → c < count_below n (is_down (e ∷ past))
one_entry_more n c (Crash who) past more none = as_many n c (Crash who) past more (λ p h. or_right (who.0 == p) (is_down past p) h)
one_entry_more n c (Restart who listed) past more none =
    let fewer : count_below n (is_down past) ≤ count_below n (is_down (Restart who listed ∷ past)) + 1 = one_fewer n (is_down past) who.0 in
    omega (arith, more, fewer, none who listed refl)
one_entry_more n c e past more none = as_many n c e past more (λ p h. h)

pub more_down : (n : ℕ) (past : List Entry) → AreLegalEntries n past → (lists : List (List ℕ)) → AreFalls past lists → (c t next : ℕ) → HasNoneUntil (list_at lists c) t next → next ≤ length past
    → c < count_below n (is_down (instant past t)) → (u : ℕ) → t ≤ u → u ≤ next → c < count_below n (is_down (instant past u))
more_down n past legal lists are c t next none within more u up low =
    onward_to (λ x. c < count_below n (is_down x)) past t u up (omega (arith, low, within))
    (λ v e above below at here. one_entry_more n c e (instant past v) here (λ who listed is left.
    let after : instant past (v + 1) ≡ e ∷ instant past v = entry_next past v e at in
    are.all n v who listed legal (at ∙ ap (λ x. Some x) is) (λ list_has.
    none v above (omega (arith, below, low)) (subst (λ m. Contains (list_at lists m) v) (ap (λ x. count_below n (is_down x)) after ∙ left) list_has)))) more
