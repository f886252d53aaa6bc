-- How long a determinant is safe because others are down: as long as its holders are up and enough others are down.
use Rattle.causal_audit.proofs.Common.{ℕ, ◌≡◌, ◌+◌, ◌<◌, ◌≤◌, true, false, List, ◌∷◌, length, Some, sym, ap, ◌∙◌, arith, ◌==◌, false≢true, false_from_ne_true, ne_eqb, nat_tests, Det, Pid, count_below, members_counted, Entry, Crash, instant, is_down, logs, accepted_then, nat_cmp, FinSet, contains, len, AreLegalEntries}
use Rattle.causal_trace.proofs.Lemmas.EntryFacts.{restarts_down}
use Rattle.causal_holders.proofs.Lemmas.MemberCounts.{count_below-same}
use Rattle.causal_audit.specs.Laws.{down_or_holding}
use Rattle.causal_audit.specs.Inside.DeliveryStates.{HasExactly}
use Rattle.causal_audit.specs.Inside.Index.Falls.{AreFalls}
use Rattle.causal_audit.specs.Inside.Index.Lists.{list_at}
use Rattle.causal_audit.specs.Inside.PositionLists.{HasNoneUntil}
use Rattle.causal_audit.specs.Inside.SafetyScan.Persistence.{CrashesNone, MentionsNone, RestartsNone}
use Rattle.causal_audit.specs.Inside.SafetyScan.Scans.{IsAtRiskAt, IsDownBound, RulesOut}
use Rattle.causal_audit.specs.declared.safety_scan.det_safety.DetSafety.{DetSafety}
use Rattle.causal_audit.proofs.by_clock.Begun.{onward_to}
use Rattle.causal_audit.proofs.index.DownCounts.{disjoint_counted, entry_next, more_down}
use Rattle.causal_audit.proofs.safety_scan.CoverStays.{holder_up, holders_stay, up_held}
use Rattle.causal_audit.proofs.Shown.{counted, down_members}
use Rattle.causal_trace.proofs.Lemmas.RunProcesses.{logs_inside}

-- a process that is up remains up until it crashes
up_more : (e : Entry) (past : List Entry) (p : ℕ) → ((who : Pid) → e ≡ Crash who → (who.0 == p) ≡ false) → is_down past p ≡ false → is_down (e ∷ past) p ≡ false
up_more e past p apart up = grind (arith, nat_tests)

-- a determinant that is not at risk has any safety
pub has_any_safety : (s : DetSafety) (n most : ℕ) (past : List Entry) (d : Det) (u : ℕ) → (IsAtRiskAt n most past d u → ⊥) → RulesOut s n most past d u
has_any_safety s n most past d u safe = grind arith

module _ (n : ℕ) (past : List Entry) (formed : AreLegalEntries n past) (d : Det) (t next : ℕ) (within : next ≤ length past) (unmentioned : MentionsNone past d t next)
    (holders : FinSet nat_cmp) (holds : HasExactly holders (λ p. logs (instant past t) p d)) (uncrashed : CrashesNone past holders t next) where
  -- while none crashes, the holders are up
  are_up : (u : ℕ) → t ≤ u → u ≤ next → (p : ℕ) → contains holders p ≡ true → is_down (instant past u) p ≡ false
  are_up u up low p inside =
      onward_to (λ x. is_down x p ≡ false) past t u up (omega (arith, low, within))
      (λ v e above below at here. up_more e (instant past v) p (λ who is. grind (arith, ne_eqb who.0 p, uncrashed v who above (omega (arith, below, low)) (at ∙ ap (λ x. Some x) is), inside)) here)
      (holder_up n (instant past t) d p (accepted_then n past t formed) (sym (holds p) ∙ inside))

  -- so none restarts
  pub holders_remain : RestartsNone past holders t next
  holders_remain v e above below at =
      let after : AreLegalEntries n (e ∷ instant past v) = rw (entry_next past v e at) at (accepted_then n past (v + 1) formed) in
      grind (arith, after, restarts_down n (instant past v), are_up v above (omega (arith, below)))

  -- they still hold it, and nobody else does
  same_held : (u : ℕ) → t ≤ u → u ≤ next → (p : ℕ) → logs (instant past u) p d ≡ logs (instant past t) p d
  same_held u up low p =
      holders_stay n past d holders t u p formed up (omega (arith, low, within))
      (λ v e above below. unmentioned v e above (omega (arith, below, low))) (λ v e above below. holders_remain v e above (omega (arith, below, low)))
      (λ held. holds p ∙ held)
      ∙ sym (up_held (logs (instant past t) p d) (is_down (instant past u) p) (λ held. are_up u up low p (holds p ∙ held)))

  -- as many hold it as before
  held_many : (u : ℕ) → t ≤ u → u ≤ next → count_below n (λ p. logs (instant past u) p d) ≡ len holders
  held_many u up low =
      count_below-same n (λ p. logs (instant past u) p d) (λ p. logs (instant past t) p d) (λ p below. same_held u up low p)
      ∙ sym (members_counted n holders (λ p. logs (instant past t) p d) (record {
        process = λ p h. logs_inside n (instant past t) p d (accepted_then n past t formed) (sym (holds p) ∙ h);
        member = λ p below. holds p;
      }))

  -- nobody that is down holds it
  apart : (u : ℕ) (p : ℕ) → is_down (instant past u) p ≡ true → logs (instant past u) p d ≡ false
  apart u p fell = false_from_ne_true (logs (instant past u) p d) (λ held. false≢true (sym (holder_up n (instant past u) d p (accepted_then n past u formed) held) ∙ fell))

  module _ (most count : ℕ) (down : FinSet nat_cmp) (downs : HasExactly down (λ p. is_down (instant past t) p)) (bound : IsDownBound most down holders count)
      (lists : List (List ℕ)) (are : AreFalls past lists) (none : HasNoneUntil (list_at lists count) t next) where
    -- so it is not at risk while more than so many are down
    pub safe_until : (u : ℕ) → t ≤ u → u ≤ next → IsAtRiskAt n most past d u → ⊥
    safe_until u up low thin =
        let fell : len down ≡ count_below n (is_down (instant past t)) = counted n down (is_down (instant past t)) (down_members n (instant past t) down (accepted_then n past t formed) downs) in
        let more : count < count_below n (is_down (instant past u)) = more_down n past formed lists are count t next none within (omega (arith, fell, bound.more)) u up low in
        let all : count_below n (down_or_holding (instant past u) d) ≡ count_below n (is_down (instant past u)) + count_below n (λ p. logs (instant past u) p d) =
        disjoint_counted n (is_down (instant past u)) (λ p. logs (instant past u) p d) (apart u) in
        omega (arith, thin.few, more, all, held_many u up low, bound.rest)
