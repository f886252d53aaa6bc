-- Which determinants survive, one more entry, and that each is that of a delivery.
use Rattle.std.proofs.Common.{ℕ, ◌≡◌, ◌<◌, inl, inr, Bool, true, List, [], ◌∷◌, None, refl, arith}
use Rattle.std.specs.Prelude.{◌||◌, All}
use Rattle.std.specs.List.{list_all}
use Rattle.std.proofs.lemmas.Bool.{false≢true, or_cases, or_left, or_right, eq-eqb}
use Rattle.std.proofs.lemmas.List.Sums.{AllPass-from_list_all}
use Rattle.causal_name.specs.declared.Det.{Det}
use Rattle.causal_name.specs.Sets.{any_below}
use Rattle.causal_holders.proofs.Lemmas.MemberCounts.{any_below-found, any_below-from}
use Rattle.causal_trace.specs.declared.entry.Entry.{Entry}
use Rattle.causal_trace.specs.declared.entry.Entry.TheVariants.{Deliver, Stable, Restart}
use Rattle.causal_trace.specs.Past.{logs, is_stable, is_delivered, list_has, mentioned_dets}
use Rattle.causal_trace.specs.Rows.{AreLegalEntries, first_fault, rows_within}
use Rattle.causal_trace.specs.Survivors.{survives}
use Rattle.causal_replays.specs.Inside.Copies.{copied_by}
use Rattle.causal_name.proofs.Lemmas.DetOrder.{same_is}
use Rattle.causal_trace.proofs.Lemmas.RunProcesses.{restart_inside, deliver_inside}

-- ---- each survivor is that of a delivery

each_listed : (test : Det → Bool) (dets : List Det) (d : Det) → list_all test dets ≡ true → list_has dets d ≡ true → test d ≡ true
each_listed test [] d all h = absurd (false≢true h)
each_listed test (x ∷ dets) d all h = grind (arith, each_listed test dets d, same_is d x)

module _ (n : ℕ) (past : List Entry) where
  -- what a legal entry names is that of a delivery
  all_delivered : (e : Entry) → first_fault n past e ≡ None → list_all (is_delivered (e ∷ past)) (mentioned_dets e) ≡ true
  unfolding rows_within
  all_delivered e legal = grind arith

  pub named_delivered : (e : Entry) → first_fault n past e ≡ None → All (λ d. is_delivered (e ∷ past) d ≡ true) (mentioned_dets e)
  named_delivered e legal = AllPass-from_list_all (is_delivered (e ∷ past)) (mentioned_dets e) (all_delivered e legal)

-- ---- one more entry

pub logged_survives : (n : ℕ) (past : List Entry) (p : ℕ) (d : Det) → p < n → logs past p d ≡ true → survives n past d ≡ true
logged_survives n past p d low h = or_right (is_stable past d) (any_below n (λ q. logs past q d)) (any_below-from n (λ q. logs past q d) p low h)

pub stable_survives : (n : ℕ) (past : List Entry) (d : Det) → is_stable past d ≡ true → survives n past d ≡ true
stable_survives n past d h = or_left (is_stable past d) (any_below n (λ q. logs past q d)) h

module _ (n : ℕ) (past : List Entry) (d : Det) where
  step_log : (e : Entry) (p : ℕ) → logs (e ∷ past) p d ≡ true → (logs past p d || list_has (copied_by e) d) ≡ true
  step_log e p h = grind arith

  step_stable : (e : Entry) → is_stable (e ∷ past) d ≡ true → (is_stable past d || list_has (copied_by e) d) ≡ true
  step_stable e h = grind arith

  -- what survives one more entry survived before, or the entry makes a copy of it
  pub survives_step : (e : Entry) → survives n (e ∷ past) d ≡ true → (survives n past d || list_has (copied_by e) d) ≡ true
  survives_step e h = elim (or_cases (is_stable (e ∷ past) d) (any_below n (λ p. logs (e ∷ past) p d)) h) [
    | inl stable ↦ grind (arith, step_stable e stable)
    | inr logged ↦ let found = any_below-found n (λ p. logs (e ∷ past) p d) logged in grind (arith, step_log e found.0 found.2, logged_survives n past found.0 d found.1)
  ]

  -- what an entry makes a copy of survives
  pub copied_survives_entry : (e : Entry) → first_fault n past e ≡ None → list_has (copied_by e) d ≡ true → survives n (e ∷ past) d ≡ true
  copied_survives_entry (Deliver to send rsn listed) legal h =
      logged_survives n (Deliver to send rsn listed ∷ past) to.0 d (deliver_inside n past to send rsn listed legal) (grind (arith, eq-eqb to.0 to.0 refl, h))
  copied_survives_entry (Restart who listed) legal h = logged_survives n (Restart who listed ∷ past) who.0 d (restart_inside n past who listed legal) (grind (arith, eq-eqb who.0 who.0 refl, h))
  copied_survives_entry (Stable det) legal h = stable_survives n (Stable det ∷ past) d (grind (arith, h))
  copied_survives_entry _ legal h = absurd (false≢true h)

  -- what an entry makes a copy of, it names
  copied_named : (e : Entry) → list_has (copied_by e) d ≡ true → list_has (mentioned_dets e) d ≡ true
  copied_named e h = grind arith

-- nothing survives before the first entry
pub none_survive : (n : ℕ) (d : Det) → survives n [] d ≡ true → ⊥
none_survive n d h = grind (arith, any_below-found n (λ p. logs [] p d))

pub survivor_delivered : (n : ℕ) (past : List Entry) (d : Det) → AreLegalEntries n past → survives n past d ≡ true → is_delivered past d ≡ true
survivor_delivered n [] d a h = absurd (none_survive n d h)
survivor_delivered n (e ∷ past) d a h = elim (or_cases (survives n past d) (list_has (copied_by e) d) (survives_step n past d e h)) [
  | inl old ↦ or_right _ _ (survivor_delivered n past d a.0 old)
  | inr new ↦ each_listed (is_delivered (e ∷ past)) (mentioned_dets e) d (all_delivered n past e a.1) (copied_named n past d e new)
]
