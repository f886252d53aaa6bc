-- A crash preserves the invariant.
use Rattle.std.proofs.Common.{ℕ, zero, suc, ◌≤◌, ◌+◌, inl, inr, Bool, List, ◌∷◌, refl, ◌∙◌, arith}
use Rattle.std.specs.Prelude.{◌||◌, ◌&&◌, not, ◌==◌}
use Rattle.std.proofs.lemmas.Bool.{or_cases, or_left, or_right, or_parts, and_from, and_parts, eqb-true}
use Rattle.std.proofs.lemmas.Bool.Decides.{eqb_tells}
use Rattle.causal_name.specs.declared.Pid.{Pid}
use Rattle.causal_name.specs.declared.Det.{Det}
use Rattle.causal_name.specs.Sets.{count_below}
use Rattle.causal_holders.proofs.Lemmas.MemberCounts.{count_below-within}
use Rattle.causal_trace.specs.declared.entry.Entry.{Entry}
use Rattle.causal_trace.specs.declared.entry.Entry.TheVariants.{Crash}
use Rattle.causal_trace.specs.Past.{is_down, logs}
use Rattle.causal_trace.specs.Dependence.{AreForward}
use Rattle.causal_trace.proofs.Lemmas.DependenceSteps.{reaches_old, depends_old}
use Rattle.causal_steps.specs.Recovery.{must_recover, HasOrRecovers}
use Rattle.causal_steps.specs.Transit.{VolatileState, Survives}
use Rattle.causal_steps.specs.Invariant.{StepInvariant}
use Rattle.causal_steps.specs.Steps.{IsCrashStep}
use Rattle.causal_steps.proofs.Sets.{Stays, recoverable_stays, has_or_recovers_stays}
use Rattle.causal_steps.proofs.Lemmas.Positions.{det_earlier, no_actor}

only_others : (n : ℕ) (a : ℕ → Bool) (w : ℕ) → n ≤ w → count_below n (λ p. w == p || a p) ≤ count_below n a
only_others n a w above = grind (arith, count_below-within, or_cases, eqb-true)

-- one more test value adds at most one to a count
count_one : (n : ℕ) (a : ℕ → Bool) (w : ℕ) → count_below n (λ p. w == p || a p) ≤ count_below n a + 1
count_one zero a w = omega arith
count_one (suc n) a w = grind (arith, eqb_tells w n, only_others n a w, count_one n a w)

module _ (n f : ℕ) (past : List Entry) (v w : VolatileState) (who : Pid) (s : IsCrashStep n f past who.0 v w) (forward : AreForward (Crash who ∷ past)) (k : StepInvariant n f past v) where
  abbrev pub e : Entry
  e = Crash who

  -- who counts as a holder still does: who logged d has to recover it
  stays : (d : Det) → Stays past (e ∷ past) d
  stays d = grind (arith, eqb_tells)

  still : (d : Det) (q : ℕ) → HasOrRecovers past d q → HasOrRecovers (e ∷ past) d q
  still d q h = has_or_recovers_stays past (e ∷ past) d q (stays d) h

  left : (d : Det) → Survives n (e ∷ past) w d → Survives n past v d
  left d (inl stable) = inl stable
  left d (inr (inl (p, low, has_d))) = inr (inl (p, low, (and_parts (not (who.0 == p)) (logs past p d) has_d).1))
  left d (inr (inr (t, under, has_d))) = inr (inr (t, s.nothing_new t under, has_d))

  pub crash_preserves : StepInvariant n f (Crash who ∷ past) w
  crash_preserves = record {
    few_down = omega (arith, count_one n (is_down past) who.0, s.few);
    known_holders_true = λ p d q small h. grind (arith, s.holders p d q, k.known_holders_true p d q small, still d q);
    carried_holders_true = λ t d q under h. still d q (k.carried_holders_true t d q (s.nothing_new t under) h);
    receivers_have_survivors = λ d alive. still d d.dest.0 (k.receivers_have_survivors d (left d alive));
    known_stable_true = λ p d small h. k.known_stable_true p d small (s.new_stable p d h);
    carried_stable_true = λ t d under h. k.carried_stable_true t d (s.nothing_new t under) h;
    dependents_log = λ i p d small at dep.
        let up = or_parts (who.0 == p) (is_down past p) dep.up in
        grind (arith, depends_old e past i p forward up.1 refl dep, k.dependents_log i p d small (det_earlier e past i d refl at), no_actor, recoverable_stays n f past (e ∷ past) d (stays d));
    messages_carry = λ i m t d at under sent r.
        let old = s.nothing_new t under in
        elim (k.messages_carry i m t d (det_earlier e past i d refl at) old sent (reaches_old e past i forward m (k.sent_before m t old sent) r)) [ inl goes ↦ inl goes | inr recoverable ↦ inr (recoverable_stays n f past (e ∷ past) d (stays d) recoverable) ];
    no_slot_shared = λ x y hx hy. k.no_slot_shared x y (left x hx) (left y hy);
    survivors_delivered = λ d h. k.survivors_delivered d (left d h);
    known_logged = λ p d q small h. grind (arith, s.holders p d q, k.known_logged p d q small);
    named_is_carried = λ t d q under h. k.named_is_carried t d q (s.nothing_new t under) h;
    knows_itself = λ p d small h. let parts = and_parts (not (who.0 == p)) (logs past p d) h in s.holders p d p ∙ and_from _ _ parts.0 (k.knows_itself p d small parts.1);
    names_sender = λ t d under h. k.names_sender t d (s.nothing_new t under) h;
    sent_before = λ m t under sent. omega (arith, k.sent_before m t (s.nothing_new t under) sent);
    recovering_are_down = λ p d h. elim (or_cases (who.0 == p && logs past p d) (must_recover past p d) h) [ inl new ↦ or_left _ _ (and_parts (who.0 == p) (logs past p d) new).0 | inr old ↦ or_right _ _ (k.recovering_are_down p d old) ];
  }
