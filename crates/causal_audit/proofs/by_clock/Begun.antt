-- The state of a delivery before its first mention.
use Rattle.causal_audit.proofs.Common.{ℕ, zero, suc, ◌≡◌, ◌+◌, ◌<◌, ◌≤◌, inl, inr, cases_lt, false, List, ◌∷◌, length, Some, refl, sym, ap, subst, ◌∙◌, arith, nat_tests, Det, Entry, instant, entry_at, is_down, is_stable, logs, list_has, reaches_begins, instant_length}
use Rattle.causal_trace.specs.Past.{mentioned_dets}
use Rattle.causal_audit.specs.Quiet.{is_transition}
use Rattle.causal_audit.specs.Inside.DeliveryStates.{IsUnknownToAll}
use Rattle.causal_audit.specs.Inside.SafetyScan.Persistence.{MentionsNone}
use Rattle.causal_audit.proofs.Between.{next_entry, no_turn_stays, stable_stays}
use Rattle.causal_trace.proofs.Lemmas.AtInstants.{no_entry}

-- ---- from an instant to a later one, entry by entry

-- a property of an instant that each entry preserves holds at a later instant
pub onward_to : (P : List Entry → Type 0) (past : List Entry) (s t : ℕ) → s ≤ t → t ≤ length past → ((v : ℕ) (e : Entry) → s ≤ v → v < t → entry_at past v ≡ Some e → P (instant past v) → P (e ∷ instant past v)) → P (instant past s) → P (instant past t)
onward_to P past s zero up within step here = let same : s ≡ 0 = omega (arith, up) in subst (λ x. P (instant past x)) same here
onward_to P past s (suc t) up within step here =
    elim (cases_lt t s) [
      | inl end ↦ let same : s ≡ suc t = omega (arith, end, up) in subst (λ x. P (instant past x)) same here
      | inr later ↦
          let found = next_entry past t (omega (arith, within)) in
          let same : t + 1 ≡ suc t = omega arith in
          let so_far = onward_to P past s t later (omega (arith, within)) (λ v e above below at. step v e above (omega (arith, below)) at) here in
          subst (λ x. P (instant past x)) same (subst P (sym found.2) (step t found.0 later (omega arith) found.1 so_far))
    ]

-- the same processes are down if none crashed or restarted in between
pub down_stays : (past : List Entry) (s t : ℕ) → s ≤ t → t ≤ length past → ((v : ℕ) (e : Entry) → s ≤ v → v < t → entry_at past v ≡ Some e → is_transition e ≡ false) → (p : ℕ) → is_down (instant past s) p ≡ is_down (instant past t) p
down_stays past s t up within quiet p =
    onward_to (λ x. is_down (instant past s) p ≡ is_down x p) past s t up within
    (λ v e above below at same. same ∙ sym (no_turn_stays e (instant past v) (quiet v e above below at) p).0) refl

-- ---- before the first mention

unlogged_stays : (e : Entry) (past : List Entry) (d : Det) → list_has (mentioned_dets e) d ≡ false → (p : ℕ) → logs past p d ≡ false → logs (e ∷ past) p d ≡ false
unlogged_stays e past d h p none = grind (arith, nat_tests)

-- before the delivery and the first mention of its determinant it has no holders and no dependents
pub unheard_before : (past : List Entry) (k : ℕ) (d : Det) (t : ℕ) → MentionsNone past d 0 t → t ≤ k → t ≤ length past → IsUnknownToAll (instant past t) k d
unheard_before past k d t unmentioned early within = record {
  unlogged = λ p. onward_to (λ x. logs x p d ≡ false) past 0 t (omega arith) within
      (λ v e above below at so. unlogged_stays e (instant past v) d (unmentioned v e above below at) p so) (ap (λ x. logs x p d) (no_entry past));
  unstable = onward_to (λ x. is_stable x d ≡ false) past 0 t (omega arith) within
      (λ v e above below at so. sym (stable_stays e (instant past v) d (unmentioned v e above below at)) ∙ so) (ap (λ x. is_stable x d) (no_entry past));
  independent = λ p depends. omega (arith, reaches_begins (instant past t) k depends.event depends.reached, instant_length past t within, early);
}
