-- A delivery preserves the invariant.
use Rattle.std.proofs.Common.{ℕ, ◌≡◌, ◌<◌, inl, inr, true, false, List, ◌∷◌, Some, refl, sym, ap, subst, ◌∙◌, arith}
use Rattle.std.specs.Prelude.{◌⊎◌, ◌&&◌, not, ◌==◌}
use Rattle.std.proofs.lemmas.Bool.{or_cases, or_left, or_right, and_from, and_parts, eqb-true, eq-eqb}
use Rattle.std.specs.Option.{option_map}
use Rattle.causal_name.specs.declared.Pid.{Pid}
use Rattle.causal_name.specs.declared.Det.{Det}
use Rattle.causal_name.specs.Names.{same_det, message_of}
use Rattle.causal_name.proofs.Lemmas.DetOrder.{same_itself, same_is}
use Rattle.causal_trace.specs.declared.entry.Entry.{Entry}
use Rattle.causal_trace.specs.declared.entry.Entry.TheVariants.{Deliver}
use Rattle.causal_trace.specs.Past.{list_has, is_down, logs, det_of, det_at, det_from, is_delivered, is_det}
use Rattle.causal_trace.specs.Dependence.{AreForward, actor, Reaches, Depends}
use Rattle.causal_trace.proofs.Lemmas.DependenceSteps.{reaches_old, reaches_begins, ReachesNewest, is_newest, in_lane, through_message, depends_old}
use Rattle.causal_steps.specs.Recovery.{delivers_as_new, must_recover, IsRecoverable, HasOrRecovers}
use Rattle.causal_steps.specs.Transit.{VolatileState, Survives}
use Rattle.causal_steps.specs.Invariant.{StepInvariant}
use Rattle.causal_steps.specs.Steps.{IsDeliverStep}
use Rattle.causal_steps.proofs.Sets.{Stays, recoverable_stays, has_or_recovers_stays, recoverable_survives}
use Rattle.causal_steps.proofs.Lemmas.Positions.{at_newest, det_older}

module _ (n f : ℕ) (past : List Entry) (v w : VolatileState) (to : Pid) (send rsn : ℕ) (listed : List Det) (s : IsDeliverStep n past to send rsn listed v w) (forward : AreForward (Deliver to send rsn listed ∷ past)) (k : StepInvariant n f past v) where
  abbrev pub e : Entry
  e = Deliver to send rsn listed

  abbrev pub own : Det
  own = det_from to rsn s.message

  own_det : det_of past e ≡ Some own
  own_det = ap (λ x. option_map (det_from to rsn) x) s.sent

  logs_listed : (d : Det) → list_has listed d ≡ true → logs (e ∷ past) to.0 d ≡ true
  logs_listed d h = or_left _ _ (and_from _ _ (eq-eqb to.0 to.0 refl) h)

  logs_own : logs (e ∷ past) to.0 own ≡ true
  logs_own = logs_listed own (s.lists own ∙ or_left _ _ (same_itself own))

  logs_carried : (d : Det) → s.delivered.carries d ≡ true → logs (e ∷ past) to.0 d ≡ true
  logs_carried d h = logs_listed d (s.lists d ∙ or_right _ _ h)

  -- what the receiver has or recovers is not delivered as new
  found_not_new : (d : Det) → HasOrRecovers past d to.0 → delivers_as_new past to.0 e d ≡ false
  found_not_new d h = grind (arith, k.recovering_are_down to.0 d)

  -- what survives is not delivered as new: its receiver has or recovers it
  not_new : (d : Det) → Survives n past v d → delivers_as_new past to.0 e d ≡ false
  not_new d alive = grind (arith, own_det, same_is own d, k.receivers_have_survivors d alive, found_not_new d)

  stays : (d : Det) → Survives n past v d → Stays past (e ∷ past) d
  stays d alive = grind (arith, not_new d alive)

  still : (d : Det) (q : ℕ) → Survives n past v d → HasOrRecovers past d q → HasOrRecovers (e ∷ past) d q
  still d q alive h = has_or_recovers_stays past (e ∷ past) d q (stays d alive) h

  stays_recoverable : (d : Det) → IsRecoverable n f past d → IsRecoverable n f (e ∷ past) d
  stays_recoverable d recoverable =
      grind (arith, recoverable_survives n f past d k.few_down (λ p h. k.recovering_are_down p d h) recoverable, recoverable_stays n f past (e ∷ past) d, stays d)

  carried_lives : (d : Det) → s.delivered.carries d ≡ true → Survives n past v d
  carried_lives d h = inr (inr (s.delivered, s.in_transit, h))

  listed_lives : (d : Det) → list_has listed d ≡ true → (d ≡ own) ⊎ ((s.delivered.carries d ≡ true) × Survives n past v d)
  listed_lives d h = elim (or_cases (same_det d own) (s.delivered.carries d) (sym (s.lists d) ∙ h)) [ inl is ↦ inl (same_is d own is) | inr goes ↦ inr (goes, carried_lives d goes) ]

  -- what survives survived before, or is the new determinant
  left : (d : Det) → Survives n (e ∷ past) w d → (d ≡ own) ⊎ Survives n past v d
  left d (inl stable) = inr (inl stable)
  left d (inr (inr (t, under, has_d))) = inr (inr (inr (t, s.nothing_new t under, has_d)))
  left d (inr (inl (p, low, has_d))) = elim (or_cases (to.0 == p && list_has listed d) (logs past p d) has_d) [
    | inl new ↦ elim (listed_lives d (and_parts (to.0 == p) (list_has listed d) new).1) [ inl is ↦ inl is | inr old ↦ inr old.1 ]
    | inr old ↦ inr (inr (inl (p, low, old)))
  ]

  own_found : HasOrRecovers (e ∷ past) own to.0
  own_found = inr (or_left _ _ logs_own)

  new_known : (p : ℕ) (d : Det) (q : ℕ) → p < n → w.knows_holder p d q ≡ true → HasOrRecovers (e ∷ past) d q × ((q < n) × (logs (e ∷ past) p d ≡ true))
  new_known p d q small h = elim (s.new_holders p d q h) [
    | inl old ↦
        let fact = k.known_logged p d q small old in
        (still d q (inr (inl (p, small, fact.1))) (k.known_holders_true p d q small old), (fact.0, or_right _ _ fact.1))
    | inr (is, lists, why) ↦
        let here : logs (e ∷ past) p d ≡ true = subst (λ x. logs (e ∷ past) x d ≡ true) is (logs_listed d lists) in
        elim why [
          | inl names ↦ let fact = k.named_is_carried s.delivered d q s.in_transit names in (still d q (carried_lives d fact.1) (k.carried_holders_true s.delivered d q s.in_transit names), (fact.0, here))
          | inr me ↦ (inr (or_left _ _ (subst (λ x. logs (e ∷ past) x d ≡ true) (sym me) (logs_listed d lists))), (subst (λ x. x < n) (sym me) s.process, here))
        ]
  ]

  old_depends : (i p : ℕ) (d : Det) → p < n → det_at (e ∷ past) i ≡ Some d → Depends past i p → (logs (e ∷ past) p d ≡ true) ⊎ IsRecoverable n f (e ∷ past) d
  old_depends i p d small at old = elim (k.dependents_log i p d small (det_older e past i d (reaches_begins past i old.event old.reached) at) old) [ inl has_d ↦ inl (or_right _ _ has_d) | inr recoverable ↦ inr (stays_recoverable d recoverable) ]

  new_depends : (i p : ℕ) (d : Det) → p < n → det_at (e ∷ past) i ≡ Some d → is_down past p ≡ false → actor e ≡ Some p → ReachesNewest e past i p → (logs (e ∷ past) p d ≡ true) ⊎ IsRecoverable n f (e ∷ past) d
  new_depends i p d small at up who (is_newest is) = inl (grind (arith, at_newest, own_det, logs_own))
  new_depends i p d small at up who (in_lane j event r) = old_depends i p d small at (record { up = up; event = j; present = event; reached = r })
  new_depends i p d small at up who (through_message j is r) =
      let from_send : Reaches past i send = subst (λ x. Reaches past i x) (sym (eqb-true send j is)) r in
      let place : to.0 ≡ p = cc in
      elim (k.messages_carry i send s.delivered d (det_older e past i d (reaches_begins past i j r) at) s.in_transit s.position from_send) [
        | inl goes ↦ inl (subst (λ x. logs (e ∷ past) x d ≡ true) place (logs_carried d goes))
        | inr recoverable ↦ inr (stays_recoverable d recoverable)
      ]

  -- an old determinant in the slot of the new one is the new one
  one_slot : (d : Det) → Survives n past v d → d.dest ≡ to → d.rsn ≡ rsn → d ≡ own
  one_slot d alive dest place =
      let same : message_of d ≡ s.message = s.only d (subst (λ (q : Pid). HasOrRecovers past d q.0) dest (k.receivers_have_survivors d alive)) dest place in
      grind arith

  pub delivery_preserves : StepInvariant n f (Deliver to send rsn listed ∷ past) w
  delivery_preserves = record {
    few_down = k.few_down;
    known_holders_true = λ p d q small h. (new_known p d q small h).0;
    carried_holders_true = λ t d q under h. still d q (inr (inr (t, s.nothing_new t under, (k.named_is_carried t d q (s.nothing_new t under) h).1))) (k.carried_holders_true t d q (s.nothing_new t under) h);
    receivers_have_survivors = λ d alive. grind (arith, left d alive, own_found, still d d.dest.0, k.receivers_have_survivors d);
    known_stable_true = λ p d small h. k.known_stable_true p d small (s.new_stable p d h);
    carried_stable_true = λ t d under h. k.carried_stable_true t d (s.nothing_new t under) h;
    dependents_log = λ i p d small at dep. elim (depends_old e past i p forward dep.up refl dep) [
      | inl old ↦ old_depends i p d small at old
      | inr new ↦ new_depends i p d small at dep.up new.0 new.1
    ];
    messages_carry = λ i m t d at under sent r.
        let old = s.nothing_new t under in
        let before = reaches_old e past i forward m (k.sent_before m t old sent) r in
        elim (k.messages_carry i m t d (det_older e past i d (reaches_begins past i m before) at) old sent before) [ inl goes ↦ inl goes | inr recoverable ↦ inr (stays_recoverable d recoverable) ];
    no_slot_shared = λ x y hx hy dest place. elim (left x hx) [
      | inl is ↦ elim (left y hy) [
        | inl other ↦ is ∙ sym other
        | inr old ↦ is ∙ sym (one_slot y old (sym dest ∙ ap (λ (d : Det). d.dest) is) (sym place ∙ ap (λ (d : Det). d.rsn) is))
      ]
      | inr here ↦ elim (left y hy) [
        | inl other ↦ one_slot x here (dest ∙ ap (λ (d : Det). d.dest) other) (place ∙ ap (λ (d : Det). d.rsn) other) ∙ sym other
        | inr old ↦ k.no_slot_shared x y here old dest place
      ]
    ];
    survivors_delivered = λ d h. elim (left d h) [
      | inl is ↦ or_left (is_det (det_of past e) d) (is_delivered past d) (subst (λ x. is_det (det_of past e) x ≡ true) (sym is) (subst (λ o. is_det o own ≡ true) (sym own_det) (same_itself own)))
      | inr old ↦ or_right _ _ (k.survivors_delivered d old)
    ];
    known_logged = λ p d q small h. (new_known p d q small h).1;
    named_is_carried = λ t d q under h. k.named_is_carried t d q (s.nothing_new t under) h;
    knows_itself = λ p d small h. grind (arith, eqb-true, s.knows_itself d, s.keeps_holders p d p, k.knows_itself p d small);
    names_sender = λ t d under h. k.names_sender t d (s.nothing_new t under) h;
    sent_before = λ m t under sent. omega (arith, k.sent_before m t (s.nothing_new t under) sent);
    recovering_are_down = λ p d h. k.recovering_are_down p d (and_parts (not (delivers_as_new past to.0 e d)) (must_recover past p d) h).1;
  }
