-- A send preserves the invariant.
use Rattle.std.proofs.Common.{ℕ, ◌≡◌, ◌<◌, inl, inr, true, false, List, ◌∷◌, length, Some, refl, sym, ap, subst, ◌∙◌, arith}
use Rattle.std.specs.Prelude.{◌⊎◌}
use Rattle.causal_name.specs.declared.Pid.{Pid}
use Rattle.causal_name.specs.declared.Det.{Det}
use Rattle.causal_holders.proofs.Lemmas.MemberCounts.{count_below-within}
use Rattle.causal_trace.specs.declared.entry.Entry.{Entry}
use Rattle.causal_trace.specs.declared.entry.Entry.TheVariants.{Send}
use Rattle.causal_trace.specs.Past.{is_down, logs, det_at}
use Rattle.causal_trace.specs.Dependence.{AreForward, Reaches}
use Rattle.causal_trace.proofs.Lemmas.DependenceSteps.{reaches_old, ReachesNewest, is_newest, in_lane, through_message, reaches_newest, depends_old}
use Rattle.causal_steps.specs.Recovery.{counts_as_holder, IsRecoverable, HasOrRecovers}
use Rattle.causal_steps.specs.Transit.{TransitParcel, VolatileState, IsInTransit, IsLoggedBySome, IsCarried, Survives}
use Rattle.causal_steps.specs.Invariant.{StepInvariant}
use Rattle.causal_steps.specs.Steps.{IsSendStep}
use Rattle.causal_steps.proofs.Lemmas.Positions.{det_earlier, det_below}

module _ (n f : ℕ) (past : List Entry) (v w : VolatileState) (from to : Pid) (ssn : ℕ) (new : TransitParcel) (s : IsSendStep n f past from.0 v w new) (forward : AreForward (Send from to ssn ∷ past)) (k : StepInvariant n f past v) where
  abbrev pub e : Entry
  e = Send from to ssn

  carried : (d : Det) → IsCarried w d → IsLoggedBySome n past d ⊎ IsCarried v d
  carried d (t, under, has_d) = elim (s.one_new t under) [
    | inl old ↦ inr (t, old, has_d)
    | inr is ↦ inl (from.0, s.of_log.process, s.of_log.logged d (sym (ap (λ (x : TransitParcel). x.carries d) is) ∙ has_d))
  ]

  left : (d : Det) → Survives n (e ∷ past) w d → Survives n past v d
  left d (inl stable) = inl stable
  left d (inr (inl counts_as_holder)) = inr (inl counts_as_holder)
  left d (inr (inr c)) = inr (carried d c)

  -- the message carries what its sender logs, or no crash that f allows can lose that
  chosen : (d : Det) → logs past from.0 d ≡ true → (new.carries d ≡ true) ⊎ IsRecoverable n f past d
  chosen d has_d =
      grind (arith, s.left_out d has_d, k.known_stable_true from.0 d s.of_log.process, k.known_holders_true from.0 d, count_below-within n (v.knows_holder from.0 d) (counts_as_holder past d))

  sent_depends : (i p : ℕ) (d : Det) → p < n → det_at past i ≡ Some d → is_down past p ≡ false → ReachesNewest e past i p → (logs past p d ≡ true) ⊎ IsRecoverable n f past d
  sent_depends i p d small at up (is_newest is) = absurd (omega (arith, is, det_below past i d at))
  sent_depends i p d small at up (in_lane j event r) = k.dependents_log i p d small at (record { up = up; event = j; present = event; reached = r })
  sent_depends i p d small at up (through_message j is r) = absurd (let x : false ≡ true = is in cc)

  named : (t : TransitParcel) (d : Det) (q : ℕ) → IsInTransit w t → t.names_holder d q ≡ true → HasOrRecovers past d q × ((q < n) × (t.carries d ≡ true))
  named t d q under h = elim (s.one_new t under) [
    | inl old ↦ (k.carried_holders_true t d q old h, k.named_is_carried t d q old h)
    | inr is ↦
        let fact = s.of_log.known_holders d q (sym (ap (λ (x : TransitParcel). x.names_holder d q) is) ∙ h) in
        (k.known_holders_true from.0 d q s.of_log.process fact.0, ((k.known_logged from.0 d q s.of_log.process fact.0).0, ap (λ (x : TransitParcel). x.carries d) is ∙ fact.1))
  ]

  covered : (i m : ℕ) (t : TransitParcel) (d : Det) → det_at past i ≡ Some d → (IsInTransit v t ⊎ (t ≡ new)) → t.send ≡ Some m → Reaches (e ∷ past) i m → (t.carries d ≡ true) ⊎ IsRecoverable n f past d
  covered i m t d at (inl old) sent r = k.messages_carry i m t d at old sent (reaches_old e past i forward m (k.sent_before m t old sent) r)
  covered i m t d at (inr is) sent r =
      grind (arith, s.position, sent_depends i from.0 d s.of_log.process at s.of_log.up, reaches_newest e past i from.0 m forward, chosen d)

  pub send_preserves : StepInvariant n f (Send from to ssn ∷ past) w
  send_preserves = record {
    few_down = k.few_down;
    known_holders_true = λ p d q small h. k.known_holders_true p d q small (sym (s.same_knowledge.holders p d q) ∙ h);
    carried_holders_true = λ t d q under h. (named t d q under h).0;
    receivers_have_survivors = λ d alive. k.receivers_have_survivors d (left d alive);
    known_stable_true = λ p d small h. k.known_stable_true p d small (s.same_knowledge.stable p d h);
    carried_stable_true = λ t d under h. elim (s.one_new t under) [ inl old ↦ k.carried_stable_true t d old h | inr is ↦ k.known_stable_true from.0 d s.of_log.process (s.of_log.known_stable d (sym (ap (λ (x : TransitParcel). x.names_stable d) is) ∙ h)) ];
    dependents_log = λ i p d small at dep.
        grind (arith, depends_old e past i p forward dep.up refl dep, k.dependents_log i p d small (det_earlier e past i d refl at), sent_depends i p d small (det_earlier e past i d refl at) dep.up);
    messages_carry = λ i m t d at under sent r. covered i m t d (det_earlier e past i d refl at) (s.one_new t under) sent r;
    no_slot_shared = λ x y hx hy. k.no_slot_shared x y (left x hx) (left y hy);
    survivors_delivered = λ d h. k.survivors_delivered d (left d h);
    known_logged = λ p d q small h. k.known_logged p d q small (sym (s.same_knowledge.holders p d q) ∙ h);
    named_is_carried = λ t d q under h. (named t d q under h).1;
    knows_itself = λ p d small h. s.same_knowledge.holders p d p ∙ k.knows_itself p d small h;
    names_sender = λ t d under h. elim (s.one_new t under) [ inl old ↦ k.names_sender t d old h | inr is ↦ subst (λ (x : TransitParcel). x.names_holder d x.from ≡ true) (sym is) (subst (λ q. new.names_holder d q ≡ true) (sym s.of_log.from) (s.of_log.names_sender d (sym (ap (λ (x : TransitParcel). x.carries d) is) ∙ h))) ];
    sent_before = λ m t under sent. elim (s.one_new t under) [ inl old ↦ omega (arith, k.sent_before m t old sent) | inr is ↦ (let place : Some m ≡ Some (length past) = sym sent ∙ ap (λ (x : TransitParcel). x.send) is ∙ s.position in let here : m ≡ length past = cc in omega (arith, here)) ];
    recovering_are_down = λ p d h. k.recovering_are_down p d h;
  }
