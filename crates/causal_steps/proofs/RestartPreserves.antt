-- A restart preserves the invariant.
use Rattle.std.proofs.Common.{ℕ, ◌≡◌, ◌<◌, inl, inr, true, List, ◌∷◌, refl, sym, subst, arith}
use Rattle.std.specs.Prelude.{◌⊎◌, ◌&&◌, not, ◌==◌}
use Rattle.std.proofs.lemmas.Bool.{or_cases, or_left, or_right, and_from, and_parts, eqb-true, eq-eqb}
use Rattle.causal_name.specs.declared.Pid.{Pid}
use Rattle.causal_name.specs.declared.Det.{Det}
use Rattle.causal_holders.proofs.Lemmas.MemberCounts.{count_below-within}
use Rattle.causal_trace.specs.declared.entry.Entry.{Entry}
use Rattle.causal_trace.specs.declared.entry.Entry.TheVariants.{Restart}
use Rattle.causal_trace.specs.Past.{list_has, is_down, logs}
use Rattle.causal_trace.specs.Dependence.{AreForward}
use Rattle.causal_trace.proofs.Lemmas.DependenceSteps.{reaches_old, depends_old, depends_restarted}
use Rattle.causal_steps.specs.Recovery.{must_recover, IsRecoverable, HasOrRecovers}
use Rattle.causal_steps.specs.Transit.{VolatileState, IsLoggedBySome, IsCarried, Survives}
use Rattle.causal_steps.specs.Invariant.{StepInvariant}
use Rattle.causal_steps.specs.Steps.{IsRestartStep}
use Rattle.causal_steps.proofs.Sets.{Stays, recoverable_stays, has_or_recovers_stays, recoverable_survives}
use Rattle.causal_steps.proofs.Lemmas.Positions.{det_earlier, no_actor}

module _ (n f : ℕ) (past : List Entry) (v w : VolatileState) (who : Pid) (listed : List Det) (s : IsRestartStep n past who.0 listed v w) (forward : AreForward (Restart who listed ∷ past)) (k : StepInvariant n f past v) where
  abbrev pub e : Entry
  e = Restart who listed

  -- what is logged or still in transit keeps its holders: the process lists all of it that it has to recover
  stays : (d : Det) → IsLoggedBySome n past d ⊎ IsCarried w d → Stays past (e ∷ past) d
  stays d there = grind (arith, eqb-true, s.recovers d)

  still : (d : Det) (q : ℕ) → IsLoggedBySome n past d ⊎ IsCarried w d → HasOrRecovers past d q → HasOrRecovers (e ∷ past) d q
  still d q there h = has_or_recovers_stays past (e ∷ past) d q (stays d there) h

  stays_recoverable : (d : Det) → IsRecoverable n f past d → IsRecoverable n f (e ∷ past) d
  stays_recoverable d recoverable = elim (recoverable_survives n f past d k.few_down (λ p h. k.recovering_are_down p d h) recoverable) [
    | inl stable ↦ inl stable
    | inr has_d ↦ recoverable_stays n f past (e ∷ past) d (stays d (inl has_d)) recoverable
  ]

  left : (d : Det) → Survives n (e ∷ past) w d → Survives n past v d
  left d (inl stable) = inl stable
  left d (inr (inl (p, low, has_d))) = elim (or_cases (who.0 == p && list_has listed d) (logs past p d) has_d) [
    | inl new ↦ s.lists_survivors d (and_parts (who.0 == p) (list_has listed d) new).1
    | inr old ↦ inr (inl (p, low, old))
  ]
  left d (inr (inr (t, under, has_d))) = inr (inr (t, s.nothing_new t under, has_d))

  -- who has or recovers what is listed, logged or still in transit still does
  finds_listed : (d : Det) (q : ℕ) → list_has listed d ≡ true → HasOrRecovers past d q → HasOrRecovers (e ∷ past) d q
  finds_listed d q lists h = grind arith

  still_survivor : (d : Det) (q : ℕ) → Survives n (e ∷ past) w d → HasOrRecovers past d q → HasOrRecovers (e ∷ past) d q
  still_survivor d q (inl stable) h = inl stable
  still_survivor d q (inr (inr c)) h = still d q (inr c) h
  still_survivor d q (inr (inl (p, low, has_d))) h = elim (or_cases (who.0 == p && list_has listed d) (logs past p d) has_d) [
    | inl new ↦ finds_listed d q (and_parts (who.0 == p) (list_has listed d) new).1 h
    | inr old ↦ still d q (inl (p, low, old)) h
  ]

  itself : (d : Det) → list_has listed d ≡ true → logs (e ∷ past) who.0 d ≡ true
  itself d lists = or_left _ _ (and_from _ _ (eq-eqb who.0 who.0 refl) lists)

  new_known : (p : ℕ) (d : Det) (q : ℕ) → p < n → w.knows_holder p d q ≡ true → HasOrRecovers (e ∷ past) d q × ((q < n) × (logs (e ∷ past) p d ≡ true))
  new_known p d q small h = elim (s.new_holders p d q h) [
    | inl old ↦
        let fact = k.known_logged p d q small old in
        (still d q (inl (p, small, fact.1)) (k.known_holders_true p d q small old), (fact.0, or_right _ _ fact.1))
    | inr (is, lists, why) ↦
        let here : logs (e ∷ past) p d ≡ true = subst (λ x. logs (e ∷ past) x d ≡ true) is (itself d lists) in
        elim why [
          | inl me ↦ (inr (or_left _ _ (subst (λ x. logs (e ∷ past) x d ≡ true) (sym me) (itself d lists))), (subst (λ x. x < n) (sym me) s.process, here))
          | inr (inl (r, low, knew)) ↦ (finds_listed d q lists (k.known_holders_true r d q low knew), ((k.known_logged r d q low knew).0, here))
          | inr (inr (t, under, names)) ↦ (finds_listed d q lists (k.carried_holders_true t d q under names), ((k.named_is_carried t d q under names).0, here))
        ]
  ]

  pub restart_preserves : StepInvariant n f (Restart who listed ∷ past) w
  restart_preserves = record {
    few_down = omega (arith, k.few_down, count_below-within n (is_down (e ∷ past)) (is_down past) (λ p below h. (and_parts (not (who.0 == p)) (is_down past p) h).1));
    known_holders_true = λ p d q small h. (new_known p d q small h).0;
    carried_holders_true = λ t d q under h. still d q (inr (t, under, (k.named_is_carried t d q (s.nothing_new t under) h).1)) (k.carried_holders_true t d q (s.nothing_new t under) h);
    receivers_have_survivors = λ d alive. still_survivor d d.dest.0 alive (k.receivers_have_survivors d (left d alive));
    known_stable_true = λ p d small h. elim (s.new_stable p d h) [ inl old ↦ k.known_stable_true p d small old | inr stable ↦ stable ];
    carried_stable_true = λ t d under h. k.carried_stable_true t d (s.nothing_new t under) h;
    dependents_log = λ i p d small at dep.
        grind (arith, dep.up, depends_restarted e past i p, depends_old e past i p forward, k.dependents_log i p d small (det_earlier e past i d refl at), no_actor, stays_recoverable d);
    messages_carry = λ i m t d at under sent r.
        let old = s.nothing_new t under in
        elim (k.messages_carry i m t d (det_earlier e past i d refl at) old sent (reaches_old e past i forward m (k.sent_before m t old sent) r)) [ inl goes ↦ inl goes | inr recoverable ↦ inr (stays_recoverable d recoverable) ];
    no_slot_shared = λ x y hx hy. k.no_slot_shared x y (left x hx) (left y hy);
    survivors_delivered = λ d h. k.survivors_delivered d (left d h);
    known_logged = λ p d q small h. (new_known p d q small h).1;
    named_is_carried = λ t d q under h. k.named_is_carried t d q (s.nothing_new t under) h;
    knows_itself = λ p d small h. grind (arith, eqb-true, s.knows_itself d, s.keeps_holders p d p, k.knows_itself p d small);
    names_sender = λ t d under h. k.names_sender t d (s.nothing_new t under) h;
    sent_before = λ m t under sent. omega (arith, k.sent_before m t (s.nothing_new t under) sent);
    recovering_are_down = λ p d h. let parts = and_parts (not (who.0 == p)) (must_recover past p d) h in and_from _ _ parts.0 (k.recovering_are_down p d parts.1);
  }
