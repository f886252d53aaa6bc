-- The states that legal steps reach are safe.
use Rattle.std.proofs.Common.{ℕ, ◌≡◌, ◌<◌, ◌+◌, ◌-◌, inl, inr, Bool, true, false, List, [], ◌∷◌, length, drop, Some, None, refl, sym, ap, subst, ◌∙◌, arith}
use Rattle.std.proofs.lemmas.Bool.Decides.{eqb_tells}
use Rattle.causal_name.specs.declared.Det.{Det}
use Rattle.causal_holders.proofs.Lemmas.MemberCounts.{count_below-within, count_below-none}
use Rattle.causal_trace.specs.declared.entry.Entry.{Entry}
use Rattle.causal_trace.specs.declared.entry.Entry.TheVariants.{Deliver}
use Rattle.causal_trace.specs.Past.{is_down, logs, is_stable, instant}
use Rattle.causal_trace.specs.Dependence.{AreForward}
use Rattle.causal_trace.specs.Judgement.{IsCrashSet, IsSafe, IsSafeTrace}
use Rattle.causal_steps.specs.Recovery.{must_recover, counts_as_holder, IsRecoverable}
use Rattle.causal_steps.specs.Transit.{TransitParcel, VolatileState, IsInTransit, Survives}
use Rattle.causal_steps.specs.Invariant.{StepInvariant}
use Rattle.causal_steps.specs.Steps.{IsStep, silent, delivers}
use Rattle.causal_steps.specs.Reachable.{IsInitial, IsReachableState, initial, next_state}
use Rattle.causal_steps.proofs.StepPreserves.{step_preserves}
use Rattle.causal_trace.proofs.Lemmas.AtInstants.{instants_stay}

-- the invariant of a state, and that all states so far are safe
pub record IsSafeState (n f : ℕ) (past : List Entry) (v : VolatileState) : Type 0 where
  pub facts : StepInvariant n f past v
  pub forward : AreForward past
  pub safe : IsSafeTrace (record { processes = n; past = past }) f

-- no crash set can lose what is recoverable
recoverable_not_lost : (n f : ℕ) (past : List Entry) (d : Det) (crash : ℕ → Bool) → ((p : ℕ) → must_recover past p d ≡ true → is_down past p ≡ true) → IsRecoverable n f past d → IsCrashSet n f past crash → is_stable past d ≡ false → ((q : ℕ) → q < n → crash q ≡ false → logs past q d ≡ false) → ⊥
recoverable_not_lost n f past d crash down recoverable may unstable lost = grind (arith, count_below-within n (counts_as_holder past d) crash)

invariant_safe : (n f : ℕ) (past : List Entry) (v : VolatileState) → StepInvariant n f past v → IsSafe n f past
invariant_safe n f past v k = record {
  few_down = k.few_down;
  no_orphan = λ i h.
      let o = h.is_orphan in
      grind (arith, k.dependents_log i h.orphan o.det o.process o.delivered o.depends, o.lost h.orphan o.process o.survives, recoverable_not_lost n f past o.det h.crash (λ p must. k.recovering_are_down p o.det must));
}

last_instant : (past : List Entry) (t : ℕ) → t ≡ length past → instant past t ≡ past
last_instant past t whole = ap (λ n. drop n past) (let none : length past - t ≡ 0 = omega (arith, whole) in none)

next_safe : (n f : ℕ) (e : Entry) (past : List Entry) → IsSafeTrace (record { processes = n; past = past }) f → IsSafe n f (e ∷ past) → IsSafeTrace (record { processes = n; past = e ∷ past }) f
next_safe n f e past before now t within = grind (arith, eqb_tells t (length past + 1), last_instant, instants_stay)

next_sound : (n f : ℕ) (e : Entry) (past : List Entry) (v w : VolatileState) → IsSafeState n f past v → IsStep n f past v (e ∷ past) w → AreForward (e ∷ past) → IsSafeState n f (e ∷ past) w
next_sound n f e past v w s move forward =
    let facts = step_preserves n f past (e ∷ past) v w move forward s.facts in
    record { facts = facts; forward = forward; safe = next_safe n f e past s.safe (invariant_safe n f (e ∷ past) w facts) }

step_sound : (n f : ℕ) (past next : List Entry) (v w : VolatileState) → IsSafeState n f past v → IsStep n f past v next w → IsSafeState n f next w
step_sound n f past next v w s (silent m) = record { facts = step_preserves n f past past v w (silent m) s.forward s.facts; forward = s.forward; safe = s.safe }
step_sound n f past next v w s (delivers to send rsn listed m) =
    let below : send < length past = s.facts.sent_before send m.delivered m.in_transit m.position in
    next_sound n f (Deliver to send rsn listed) past v w s (delivers to send rsn listed m) (λ j i h. grind (arith, eqb_tells send i, s.forward j i))
step_sound n f past next v w s move = next_sound n f _ past v w s move (grind (arith, s.forward))

module _ (n f : ℕ) (v : VolatileState) (none : IsInitial v) where
  no_parcel : (t : TransitParcel) → IsInTransit v t → ⊥
  no_parcel t (i, j, at) = let x : None ≡ Some t = sym (none.no_parcels i j) ∙ at in cc

  dies_out : (d : Det) → Survives n [] v d → ⊥
  dies_out d (inl stable) = let x : false ≡ true = stable in cc
  dies_out d (inr (inl (p, low, has_d))) = let x : false ≡ true = has_d in cc
  dies_out d (inr (inr (t, under, has_d))) = no_parcel t under

  initial_invariant : StepInvariant n f [] v
  initial_invariant = grind (arith, no_parcel, dies_out, none.no_holders, none.no_stable, count_below-none n (is_down []) (λ q low. refl))

  initial_safe : IsSafeState n f [] v
  initial_safe = record {
    facts = initial_invariant;
    forward = λ j i h. absurd h;
    safe = λ t within. subst (λ x. IsSafe n f x) (sym (last_instant [] t (omega (arith, within)))) (invariant_safe n f [] v initial_invariant);
  }

pub reachable_safe : (n f : ℕ) (past : List Entry) (v : VolatileState) → IsReachableState n f past v → IsSafeState n f past v
reachable_safe n f past v (initial v2 none) = initial_safe n f v none
reachable_safe n f past v (next_state old next v2 w made move) = step_sound n f old past v2 v (reachable_safe n f old v2 made) move
