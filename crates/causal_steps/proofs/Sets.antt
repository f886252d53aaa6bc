-- What keeps its holders, and so stays recoverable.
use Rattle.std.proofs.Common.{ℕ, ◌≡◌, ◌<◌, ◌≤◌, inl, inr, Bool, true, false, List, refl, arith}
use Rattle.std.specs.Prelude.{◌⊎◌}
use Rattle.std.proofs.lemmas.Bool.{both_ways, or_cases}
use Rattle.causal_name.specs.Sets.{count_below, any_below}
use Rattle.causal_name.specs.declared.Det.{Det}
use Rattle.causal_holders.proofs.Lemmas.MemberCounts.{count_below-within, any_below-found, any_below-from}
use Rattle.causal_steps.specs.Recovery.{must_recover, counts_as_holder, IsRecoverable, HasOrRecovers}
use Rattle.causal_trace.specs.Past.{is_down, logs, is_stable}
use Rattle.causal_trace.specs.declared.entry.Entry.{Entry}

-- from one state to another who counts as a holder of d still does, or d is stable
pub record Stays (past next : List Entry) (d : Det) : Type 0 where
  pub stable : is_stable past d ≡ true → is_stable next d ≡ true
  pub within : is_stable past d ≡ false → (p : ℕ) → counts_as_holder past d p ≡ true → counts_as_holder next d p ≡ true

pub recoverable_stays : (n f : ℕ) (past next : List Entry) (d : Det) → Stays past next d → IsRecoverable n f past d → IsRecoverable n f next d
recoverable_stays n f past next d s h = grind (arith, count_below-within n (counts_as_holder past d) (counts_as_holder next d))

pub has_or_recovers_stays : (past next : List Entry) (d : Det) (q : ℕ) → Stays past next d → HasOrRecovers past d q → HasOrRecovers next d q
has_or_recovers_stays past next d q s h = grind arith

-- if at most f processes are down, and with them all that have to recover something, what is recoverable is stable or
-- logged
pub recoverable_survives : (n f : ℕ) (past : List Entry) (d : Det) → count_below n (is_down past) ≤ f → ((p : ℕ) → must_recover past p d ≡ true → is_down past p ≡ true) → IsRecoverable n f past d → (is_stable past d ≡ true) ⊎ ((p : ℕ) × (p < n) × (logs past p d ≡ true))
recoverable_survives n f past d few down (inl stable) = inl stable
recoverable_survives n f past d few down (inr many) = by (any_below n (λ p. logs past p d)) refl
  where
    by : (b : Bool) → any_below n (λ p. logs past p d) ≡ b → (is_stable past d ≡ true) ⊎ ((p : ℕ) × (p < n) × (logs past p d ≡ true))
    by true is = inr (any_below-found n (λ p. logs past p d) is)
    by false is = absurd (omega (arith, few, many, count_below-within n (counts_as_holder past d) (is_down past) (λ p low h. elim (or_cases (logs past p d) (must_recover past p d) h) [ inl has ↦ absurd (both_ways (any_below n (λ q. logs past q d)) is (any_below-from n (λ q. logs past q d) p low has)) | inr must ↦ down p must ])))
