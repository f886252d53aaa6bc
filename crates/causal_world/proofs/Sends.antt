-- A process sends something.
use Rattle.std.proofs.Common.{ℕ, ◌≡◌, ◌<◌, ◌≤◌, inl, inr, true, false, List, ◌∷◌, length, Option, Some, None, refl, sym, ap, subst, ◌∙◌, arith}
use Rattle.std.specs.Prelude.{◌⊎◌}
use Rattle.std.proofs.lemmas.Bool.{and_from, or_left, cond-true, cond-false, lt-ltb, cases_Bool}
use Rattle.causal_name.specs.declared.Pid.{Pid}
use Rattle.causal_name.specs.declared.Det.{Det}
use Rattle.causal_name.specs.Sets.{count_below}
use Rattle.causal_trace.specs.declared.entry.Entry.{Entry}
use Rattle.causal_trace.specs.declared.entry.Entry.TheVariants.{Send}
use Rattle.causal_trace.specs.Past.{logs, is_stable}
use Rattle.causal_steps.specs.Steps.{IsSendStep, silent, sends, emits}
use Rattle.causal_steps.specs.Reachable.{next_state}
use Rattle.causal_rounds.specs.Rounds.{with_value_at, Round}
use Rattle.causal_rounds.specs.Gathered.{Carrier, DetState, DetInvariant, emit}
use Rattle.causal_rounds.proofs.Lemmas.RoundSteps.{set_at_cases}
use Rattle.causal_rounds.proofs.Lemmas.GatheredSteps.{det_step_preserves}
use Rattle.causal_world.specs.World.{Packet, World, GatheredFrom, carrier_of, if_carries, volatile_of, det_state_of}
use Rattle.causal_world.specs.Steps.{IsSentBy}
use Rattle.causal_world.specs.Invariant.{StoresRight, WorldInvariant}
use Rattle.causal_world.proofs.Lemmas.Functions.{map_set_at, set_at_same}
use Rattle.causal_world.proofs.Lemmas.Transit.{one_is_new}

module _ (n f : ℕ) (w : World) (p i : ℕ) (new : Packet) (s : IsSentBy n w p i new) (k : WorldInvariant n f w) where
  -- the world with the packet, after these entries, which say nothing new of logs
  abbrev sent : List Entry → World
  sent next = record w { past = next; packets = with_value_at w.packets i (Some new) }

  abbrev with_carrier : Det → DetState → Option Carrier → DetState
  with_carrier d a c = record a { carriers = with_value_at a.carriers i c }

  free : (d : Det) → (det_state_of n w d).carriers i ≡ None
  free d = ap (if_carries d) s.free

  carried : (d : Det) → new.parcel.carries d ≡ true → if_carries d (Some new) ≡ Some (record { from = p; lane = w.rounds.lane p; to = new.to })
  carried d h = cond-true (new.parcel.carries d) (Some (carrier_of new)) None h ∙ (λ j. Some (record { from = s.of_log.from j; lane = s.lane j; to = new.to }))

  uncarried : (d : Det) → new.parcel.carries d ≡ false → if_carries d (Some new) ≡ None
  uncarried d h = cond-false (new.parcel.carries d) (Some (carrier_of new)) None h

  up : w.rounds.down p ≡ false
  up = k.down p s.of_log.process ∙ s.of_log.up

  -- of each determinant its carrier is new, if the packet carries it
  sent_det : (d : Det) → DetInvariant (with_carrier d (det_state_of n w d) (if_carries d (Some new)))
  sent_det d = elim (cases_Bool (new.parcel.carries d)) [
    | inl is ↦
        let logs_it : (det_state_of n w d).logs p ≡ true = or_left _ _ (and_from _ _ (lt-ltb p n s.of_log.process) (s.of_log.logged d is)) in
        subst (λ c. DetInvariant (with_carrier d (det_state_of n w d) c)) (sym (carried d is)) (det_step_preserves (det_state_of n w d) _ (emit p new.to i up logs_it (free d)) k.rounds (k.dets d))
    | inr is ↦
        subst (λ c. DetInvariant (with_carrier d (det_state_of n w d) c)) (sym (uncarried d is))
        (subst (λ (g : ℕ → Option Carrier). DetInvariant (record (det_state_of n w d) { carriers = g })) (λ j q. sym (set_at_same (det_state_of n w d).carriers i None q (free d)) j) (k.dets d))
  ]

  dets_sent : (d : Det) → DetInvariant (det_state_of n (sent w.past) d)
  dets_sent d = subst (λ (g : ℕ → Option Carrier). DetInvariant (record (det_state_of n w d) { carriers = g })) (λ j q. sym (map_set_at (if_carries d) w.packets i (Some new) q) j) (sent_det d)

  lanes_sent : (j : ℕ) (x : Packet) → with_value_at w.packets i (Some new) j ≡ Some x → x.lane ≤ w.rounds.lane x.parcel.from
  lanes_sent j x at = grind (arith, set_at_cases w.packets i (Some new) j, at, s.lane, s.of_log.from, k.lanes j x)

  -- an old packet is still there
  still : (j : ℕ) (x : Packet) → w.packets j ≡ Some x → with_value_at w.packets i (Some new) j ≡ Some x
  still j x at = grind (arith, set_at_cases w.packets i (Some new) j, s.free, at)

  stores_sent : (next : List Entry) → ((d : Det) → is_stable next d ≡ is_stable w.past d) → StoresRight (sent next)
  stores_sent next same = record {
    stored_from = λ d h. let old = k.stores.stored_from d h in (old.0, old.1, still old.0 old.1 old.2, old.3, old.4);
    landed_stored = λ j h. let old = k.stores.landed_stored j h in (old.0, still j old.0 old.1, old.2);
    stable_stored = λ d h. k.stores.stable_stored d (sym (same d) ∙ h);
  }

  from_still : (t : ℕ) (r : Round) (d : Det) → w.rounds.rounds t ≡ Some r → w.gathered t d ≡ true → GatheredFrom (sent w.past) t r d ⊎ (w.stored d ≡ true)
  from_still t r d at h = elim (k.gathered_from t r d at h) [ inl old ↦ inl (old.0, old.1, still old.0 old.1 old.2, old.3, old.4, old.5, old.6) | inr stored ↦ inr stored ]

  -- something that is no message
  pub acknowledge_preserves : new.parcel.send ≡ None → WorldInvariant n f (record w { packets = with_value_at w.packets i (Some new) })
  acknowledge_preserves none = assumption (
    next_state _ _ _ _ k.reached (silent {w = volatile_of n (sent w.past)} (emits p new.parcel s.of_log none (assumption) (one_is_new n w (sent w.past) i new refl (λ j. refl) (λ j. refl)))),
    dets_sent,
    lanes_sent,
    from_still,
    stores_sent w.past (λ d. refl),
  )

  -- a message
  pub send_preserves : (from to : Pid) (ssn : ℕ) → from.0 ≡ p → new.parcel.send ≡ Some (length w.past) → ((d : Det) → logs w.past p d ≡ true → (new.parcel.carries d ≡ true) ⊎ ((w.knows_stable p d ≡ true) ⊎ (f < count_below n (w.knows_holder p d))))
      → WorldInvariant n f (record w { past = Send from to ssn ∷ w.past; packets = with_value_at w.packets i (Some new) })
  send_preserves from to ssn is position left_out = assumption (
    next_state _ _ _ _ k.reached
        (sends from to ssn new.parcel (subst (λ x. IsSendStep n f w.past x (volatile_of n w) (volatile_of n next) new.parcel) (sym is) (assumption (one_is_new n w next i new refl (λ j. refl) (λ j. refl))))),
    dets_sent,
    lanes_sent,
    from_still,
    stores_sent next.past (λ d. refl),
  )
    where
      next : World
      next = sent (Send from to ssn ∷ w.past)
