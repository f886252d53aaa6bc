-- A stable entry preserves the invariant.
use Rattle.std.proofs.Common.{ℕ, inl, inr, List, ◌∷◌, refl, sym, subst, ◌∙◌, arith}
use Rattle.std.proofs.lemmas.Bool.{or_cases, or_left, or_right}
use Rattle.causal_name.specs.declared.Det.{Det}
use Rattle.causal_name.specs.Names.{same_det}
use Rattle.causal_name.proofs.Lemmas.DetOrder.{same_is}
use Rattle.causal_trace.specs.declared.entry.Entry.{Entry}
use Rattle.causal_trace.specs.declared.entry.Entry.TheVariants.{Stable}
use Rattle.causal_trace.specs.Past.{is_stable}
use Rattle.causal_trace.specs.Dependence.{AreForward}
use Rattle.causal_trace.proofs.Lemmas.DependenceSteps.{reaches_old, depends_old}
use Rattle.causal_steps.specs.Recovery.{counts_as_holder, HasOrRecovers}
use Rattle.causal_steps.specs.Transit.{VolatileState, Survives}
use Rattle.causal_steps.specs.Invariant.{StepInvariant}
use Rattle.causal_steps.specs.Steps.{IsStableStep}
use Rattle.causal_steps.proofs.Sets.{Stays, recoverable_stays}
use Rattle.causal_steps.proofs.Lemmas.Positions.{det_earlier, no_actor}

module _ (n f : ℕ) (past : List Entry) (v w : VolatileState) (det : Det) (s : IsStableStep n past det v w) (forward : AreForward (Stable det ∷ past)) (k : StepInvariant n f past v) where
  abbrev pub e : Entry
  e = Stable det

  stays : (d : Det) → Stays past (e ∷ past) d
  stays d = record { stable = λ h. or_right _ _ h; within = λ _ p h. h }

  still : (d : Det) (q : ℕ) → HasOrRecovers past d q → HasOrRecovers (e ∷ past) d q
  still d q (inl stable) = inl (or_right _ _ stable)
  still d q (inr holds) = inr holds

  left : (d : Det) → Survives n (e ∷ past) w d → Survives n past v d
  left d (inl stable) = elim (or_cases (same_det d det) (is_stable past d) stable) [
    | inl is ↦ subst (λ x. Survives n past v x) (sym (same_is d det is)) s.survived
    | inr old ↦ inl old
  ]
  left d (inr (inl counts_as_holder)) = inr (inl counts_as_holder)
  left d (inr (inr (t, under, has_d))) = inr (inr (t, s.nothing_new t under, has_d))

  pub stable_preserves : StepInvariant n f (Stable det ∷ past) w
  stable_preserves = record {
    few_down = k.few_down;
    known_holders_true = λ p d q small h. still d q (k.known_holders_true p d q small (sym (s.same_holders p d q) ∙ h));
    carried_holders_true = λ t d q under h. still d q (k.carried_holders_true t d q (s.nothing_new t under) h);
    receivers_have_survivors = λ d alive. still d d.dest.0 (k.receivers_have_survivors d (left d alive));
    known_stable_true = λ p d small h. elim (s.new_stable p d h) [ inl old ↦ or_right _ _ (k.known_stable_true p d small old) | inr is ↦ or_left _ _ is ];
    carried_stable_true = λ t d under h. or_right _ _ (k.carried_stable_true t d (s.nothing_new t under) h);
    dependents_log = λ i p d small at dep.
        grind (arith, depends_old e past i p forward dep.up refl dep, k.dependents_log i p d small (det_earlier e past i d refl at), no_actor, recoverable_stays n f past (e ∷ past) d (stays d));
    messages_carry = λ i m t d at under sent r.
        let old = s.nothing_new t under in
        elim (k.messages_carry i m t d (det_earlier e past i d refl at) old sent (reaches_old e past i forward m (k.sent_before m t old sent) r)) [ inl goes ↦ inl goes | inr recoverable ↦ inr (recoverable_stays n f past (e ∷ past) d (stays d) recoverable) ];
    no_slot_shared = λ x y hx hy. k.no_slot_shared x y (left x hx) (left y hy);
    survivors_delivered = λ d h. k.survivors_delivered d (left d h);
    known_logged = λ p d q small h. k.known_logged p d q small (sym (s.same_holders p d q) ∙ h);
    named_is_carried = λ t d q under h. k.named_is_carried t d q (s.nothing_new t under) h;
    knows_itself = λ p d small h. s.same_holders p d p ∙ k.knows_itself p d small h;
    names_sender = λ t d under h. k.names_sender t d (s.nothing_new t under) h;
    sent_before = λ m t under sent. omega (arith, k.sent_before m t (s.nothing_new t under) sent);
    recovering_are_down = λ p d h. k.recovering_are_down p d h;
  }
