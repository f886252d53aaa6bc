-- A forgetting preserves the invariant.
use Rattle.std.proofs.Common.{ℕ, ◌≡◌, inl, inr, true, false, List, ◌∷◌, refl, ◌∙◌, arith}
use Rattle.std.specs.Prelude.{◌⊎◌, ◌&&◌, not, ◌==◌}
use Rattle.std.proofs.lemmas.Bool.{and_from, and_parts}
use Rattle.causal_name.specs.declared.Pid.{Pid}
use Rattle.causal_name.specs.declared.Det.{Det}
use Rattle.causal_trace.specs.declared.entry.Entry.{Entry}
use Rattle.causal_trace.specs.declared.entry.Entry.TheVariants.{Forget}
use Rattle.causal_trace.specs.Past.{list_has, logs, is_stable}
use Rattle.causal_trace.specs.Dependence.{AreForward}
use Rattle.causal_trace.proofs.Lemmas.DependenceSteps.{reaches_old, depends_old}
use Rattle.causal_steps.specs.Recovery.{IsRecoverable, HasOrRecovers}
use Rattle.causal_steps.specs.Transit.{VolatileState, Survives}
use Rattle.causal_steps.specs.Invariant.{StepInvariant}
use Rattle.causal_steps.specs.Steps.{IsForgetStep}
use Rattle.causal_steps.proofs.Sets.{Stays, recoverable_stays, has_or_recovers_stays}
use Rattle.causal_steps.proofs.Lemmas.Positions.{det_earlier, no_actor}

module _ (n f : ℕ) (past : List Entry) (v w : VolatileState) (who : Pid) (listed : List Det) (s : IsForgetStep n past who.0 listed v w) (forward : AreForward (Forget who listed ∷ past)) (k : StepInvariant n f past v) where
  abbrev pub e : Entry
  e = Forget who listed

  -- what is forgotten is stable
  forgotten : (p : ℕ) (d : Det) → (who.0 == p && list_has listed d) ≡ true → is_stable past d ≡ true
  forgotten p d h = k.known_stable_true who.0 d s.process (s.known_stable d (and_parts (who.0 == p) (list_has listed d) h).1)

  kept : (p : ℕ) (d : Det) → is_stable past d ≡ false → logs past p d ≡ true → logs (e ∷ past) p d ≡ true
  kept p d unstable has_d = grind (arith, forgotten p d)

  stays : (d : Det) → Stays past (e ∷ past) d
  stays d = grind (arith, kept)

  still : (d : Det) (q : ℕ) → HasOrRecovers past d q → HasOrRecovers (e ∷ past) d q
  still d q h = has_or_recovers_stays past (e ∷ past) d q (stays d) h

  left : (d : Det) → Survives n (e ∷ past) w d → Survives n past v d
  left d (inl stable) = inl stable
  left d (inr (inl (p, low, has_d))) = inr (inl (p, low, (and_parts (not (who.0 == p && list_has listed d)) (logs past p d) has_d).1))
  left d (inr (inr (t, under, has_d))) = inr (inr (t, s.nothing_new t under, has_d))

  logs_or_recoverable : (p : ℕ) (d : Det) → (logs past p d ≡ true) ⊎ IsRecoverable n f past d → (logs (e ∷ past) p d ≡ true) ⊎ IsRecoverable n f (e ∷ past) d
  logs_or_recoverable p d h = grind (arith, kept p d, recoverable_stays n f past (e ∷ past) d (stays d))

  pub forget_preserves : StepInvariant n f (Forget who listed ∷ past) w
  forget_preserves = record {
    few_down = k.few_down;
    known_holders_true = λ p d q small h. grind (arith, s.holders p d q, k.known_holders_true p d q small, still d q);
    carried_holders_true = λ t d q under h. still d q (k.carried_holders_true t d q (s.nothing_new t under) h);
    receivers_have_survivors = λ d alive. still d d.dest.0 (k.receivers_have_survivors d (left d alive));
    known_stable_true = λ p d small h. k.known_stable_true p d small (s.new_stable p d h);
    carried_stable_true = λ t d under h. k.carried_stable_true t d (s.nothing_new t under) h;
    dependents_log = λ i p d small at dep.
        grind (arith, depends_old e past i p forward dep.up refl dep, k.dependents_log i p d small (det_earlier e past i d refl at), no_actor, logs_or_recoverable p d);
    messages_carry = λ i m t d at under sent r.
        let old = s.nothing_new t under in
        elim (k.messages_carry i m t d (det_earlier e past i d refl at) old sent (reaches_old e past i forward m (k.sent_before m t old sent) r)) [ inl goes ↦ inl goes | inr recoverable ↦ inr (recoverable_stays n f past (e ∷ past) d (stays d) recoverable) ];
    no_slot_shared = λ x y hx hy. k.no_slot_shared x y (left x hx) (left y hy);
    survivors_delivered = λ d h. k.survivors_delivered d (left d h);
    known_logged = λ p d q small h. grind (arith, s.holders p d q, k.known_logged p d q small);
    named_is_carried = λ t d q under h. k.named_is_carried t d q (s.nothing_new t under) h;
    knows_itself = λ p d small h. let parts = and_parts (not (who.0 == p && list_has listed d)) (logs past p d) h in s.holders p d p ∙ and_from _ _ parts.0 (k.knows_itself p d small parts.1);
    names_sender = λ t d under h. k.names_sender t d (s.nothing_new t under) h;
    sent_before = λ m t under sent. omega (arith, k.sent_before m t (s.nothing_new t under) sent);
    recovering_are_down = λ p d h. k.recovering_are_down p d h;
  }
