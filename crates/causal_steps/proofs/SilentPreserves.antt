-- A step without an entry preserves the invariant.
use Rattle.std.proofs.Common.{ℕ, ◌≡◌, ◌<◌, inl, inr, true, List, Some, None, sym, ap, subst, ◌∙◌}
use Rattle.causal_name.specs.declared.Det.{Det}
use Rattle.causal_trace.specs.declared.entry.Entry.{Entry}
use Rattle.causal_trace.specs.Past.{logs}
use Rattle.causal_steps.specs.Recovery.{counts_as_holder, HasOrRecovers}
use Rattle.causal_steps.specs.Transit.{TransitParcel, VolatileState, IsInTransit, Survives}
use Rattle.causal_steps.specs.Invariant.{StepInvariant}
use Rattle.causal_steps.specs.Steps.{HasOneNew, KnowsTheSame, IsOfLog, IsLearnStep, IsSilentStep, emits, learns}

module _ (n f : ℕ) (past : List Entry) (v w : VolatileState) (k : StepInvariant n f past v) where
  -- a process sends something that is no message
  module _ (p : ℕ) (new : TransitParcel) (s : IsOfLog n past p v new) (none : new.send ≡ None) (same : KnowsTheSame v w) (less : HasOneNew v w new) where
    emitted_left : (d : Det) → Survives n past w d → Survives n past v d
    emitted_left d (inl stable) = inl stable
    emitted_left d (inr (inl counts_as_holder)) = inr (inl counts_as_holder)
    emitted_left d (inr (inr (t, under, has_d))) = elim (less t under) [
      | inl old ↦ inr (inr (t, old, has_d))
      | inr is ↦ inr (inl (p, s.process, s.logged d (sym (ap (λ (x : TransitParcel). x.carries d) is) ∙ has_d)))
    ]

    emitted_named : (t : TransitParcel) (d : Det) (q : ℕ) → IsInTransit w t → t.names_holder d q ≡ true → HasOrRecovers past d q × ((q < n) × (t.carries d ≡ true))
    emitted_named t d q under h = elim (less t under) [
      | inl old ↦ (k.carried_holders_true t d q old h, k.named_is_carried t d q old h)
      | inr is ↦
          let known = s.known_holders d q (sym (ap (λ (x : TransitParcel). x.names_holder d q) is) ∙ h) in
          (k.known_holders_true p d q s.process known.0, ((k.known_logged p d q s.process known.0).0, ap (λ (x : TransitParcel). x.carries d) is ∙ known.1))
    ]

    unsent : (m : ℕ) (t : TransitParcel) → t ≡ new → t.send ≡ Some m → ⊥
    unsent m t is sent = let x : None ≡ Some m = sym none ∙ sym (ap (λ (y : TransitParcel). y.send) is) ∙ sent in cc

    pub emit_preserves : StepInvariant n f past w
    emit_preserves = record {
      few_down = k.few_down;
      known_holders_true = λ r d q small h. k.known_holders_true r d q small (sym (same.holders r d q) ∙ h);
      carried_holders_true = λ t d q under h. (emitted_named t d q under h).0;
      receivers_have_survivors = λ d alive. k.receivers_have_survivors d (emitted_left d alive);
      known_stable_true = λ r d small h. k.known_stable_true r d small (same.stable r d h);
      carried_stable_true = λ t d under h. elim (less t under) [ inl old ↦ k.carried_stable_true t d old h | inr is ↦ k.known_stable_true p d s.process (s.known_stable d (sym (ap (λ (x : TransitParcel). x.names_stable d) is) ∙ h)) ];
      dependents_log = k.dependents_log;
      messages_carry = λ i m t d at under sent r. elim (less t under) [ inl old ↦ k.messages_carry i m t d at old sent r | inr is ↦ absurd (unsent m t is sent) ];
      no_slot_shared = λ x y hx hy. k.no_slot_shared x y (emitted_left x hx) (emitted_left y hy);
      survivors_delivered = λ d h. k.survivors_delivered d (emitted_left d h);
      known_logged = λ r d q small h. k.known_logged r d q small (sym (same.holders r d q) ∙ h);
      named_is_carried = λ t d q under h. (emitted_named t d q under h).1;
      knows_itself = λ r d small h. same.holders r d r ∙ k.knows_itself r d small h;
      names_sender = λ t d under h. elim (less t under) [ inl old ↦ k.names_sender t d old h | inr is ↦ subst (λ (x : TransitParcel). x.names_holder d x.from ≡ true) (sym is) (subst (λ q. new.names_holder d q ≡ true) (sym s.from) (s.names_sender d (sym (ap (λ (x : TransitParcel). x.carries d) is) ∙ h))) ];
      sent_before = λ m t under sent. elim (less t under) [ inl old ↦ k.sent_before m t old sent | inr is ↦ absurd (unsent m t is sent) ];
      recovering_are_down = k.recovering_are_down;
    }

  -- a process learns something
  module _ (p : ℕ) (s : IsLearnStep n past p v w) where
    learned_left : (d : Det) → Survives n past w d → Survives n past v d
    learned_left d (inl stable) = inl stable
    learned_left d (inr (inl counts_as_holder)) = inr (inl counts_as_holder)
    learned_left d (inr (inr (t, under, has_d))) = inr (inr (t, s.nothing_new t under, has_d))

    learned_known : (r : ℕ) (d : Det) (q : ℕ) → r < n → w.knows_holder r d q ≡ true → HasOrRecovers past d q × ((q < n) × (logs past r d ≡ true))
    learned_known r d q small h = elim (s.new_holders r d q h) [
      | inl old ↦ (k.known_holders_true r d q small old, k.known_logged r d q small old)
      | inr (is, has_d, (t, under, names)) ↦ (k.carried_holders_true t d q under names, ((k.named_is_carried t d q under names).0, subst (λ x. logs past x d ≡ true) (sym is) has_d))
    ]

    pub learn_preserves : StepInvariant n f past w
    learn_preserves = record {
      few_down = k.few_down;
      known_holders_true = λ r d q small h. (learned_known r d q small h).0;
      carried_holders_true = λ t d q under h. k.carried_holders_true t d q (s.nothing_new t under) h;
      receivers_have_survivors = λ d alive. k.receivers_have_survivors d (learned_left d alive);
      known_stable_true = λ r d small h. elim (s.new_stable r d h) [ inl old ↦ k.known_stable_true r d small old | inr stable ↦ stable ];
      carried_stable_true = λ t d under h. k.carried_stable_true t d (s.nothing_new t under) h;
      dependents_log = k.dependents_log;
      messages_carry = λ i m t d at under sent r. k.messages_carry i m t d at (s.nothing_new t under) sent r;
      no_slot_shared = λ x y hx hy. k.no_slot_shared x y (learned_left x hx) (learned_left y hy);
      survivors_delivered = λ d h. k.survivors_delivered d (learned_left d h);
      known_logged = λ r d q small h. (learned_known r d q small h).1;
      named_is_carried = λ t d q under h. k.named_is_carried t d q (s.nothing_new t under) h;
      knows_itself = λ r d small h. s.keeps_holders r d r (k.knows_itself r d small h);
      names_sender = λ t d under h. k.names_sender t d (s.nothing_new t under) h;
      sent_before = λ m t under sent. k.sent_before m t (s.nothing_new t under) sent;
      recovering_are_down = k.recovering_are_down;
    }

  pub silent_preserves : IsSilentStep n past v w → StepInvariant n f past w
  silent_preserves (emits p new s none same less) = emit_preserves p new s none same less
  silent_preserves (learns p s) = learn_preserves p s
