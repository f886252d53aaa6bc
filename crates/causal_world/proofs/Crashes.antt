-- A process crashes, and a process learns who holds what it logs.
use Rattle.std.proofs.Common.{ℕ, suc, ◌≡◌, ◌<◌, ◌≤◌, inl, inr, Bool, true, false, not, ◌&&◌, ◌∷◌, Some, refl, sym, ap, subst, ◌∙◌, arith}
use Rattle.std.specs.Prelude.{◌⊎◌, ◌==◌}
use Rattle.std.proofs.lemmas.Bool.{both_ways, and_parts, and_from, lt-ltb, false_from_ne_true}
use Rattle.std.proofs.lemmas.Bool.Decides.{eqb_tells}
use Rattle.causal_name.specs.declared.Pid.{Pid}
use Rattle.causal_name.specs.declared.Det.{Det}
use Rattle.causal_name.specs.Sets.{count_below}
use Rattle.causal_trace.specs.declared.entry.Entry.TheVariants.{Crash}
use Rattle.causal_trace.specs.Past.{is_down, logs, is_stable, deliveries}
use Rattle.causal_steps.specs.Recovery.{must_recover}
use Rattle.causal_steps.specs.Steps.{crashes, silent, learns}
use Rattle.causal_steps.specs.Reachable.{next_state}
use Rattle.causal_rounds.specs.Rounds.{with_value_at, RecoveryState, RoundStep, crash}
use Rattle.causal_rounds.specs.Gathered.{DetState, DetInvariant}
use Rattle.causal_rounds.specs.Gathered as det
use Rattle.causal_rounds.specs.Acceptance.{by_floor}
use Rattle.causal_rounds.proofs.Lemmas.RoundSteps.{set_at_cases, round_step_preserves, set_at_away}
use Rattle.causal_rounds.proofs.Lemmas.GatheredSteps.{det_step_preserves}
use Rattle.causal_world.specs.World.{Packet, World, carrier_of, volatile_of, det_state_of}
use Rattle.causal_world.specs.Invariant.{AbsentAreDown, WorldInvariant}
use Rattle.causal_world.proofs.Lemmas.Functions.{set_at_is, apart_is}
use Rattle.causal_world.proofs.Lemmas.Transit.{in_transit_of, is_accepted, rounds_bring_nothing, same_brings_nothing}

module _ (n f : ℕ) (w : World) (k : WorldInvariant n f w) where
  -- a process that is up has nothing to recover
  pub up_recovers_nothing : (p : ℕ) (d : Det) → p < n → w.rounds.down p ≡ false → must_recover w.past p d ≡ false
  up_recovers_nothing p d low up = false_from_ne_true (must_recover w.past p d) (λ is. both_ways (w.rounds.down p) up ((k.dets d).recovering_are_down p (and_from _ _ (lt-ltb p n low) is)))

  module _ (who : Pid) (low : who.0 < n) (up : is_down w.past who.0 ≡ false) (few : count_below n (is_down w.past) < f) where
    abbrev fallen : RecoveryState
    fallen = record w.rounds { down = with_value_at w.rounds.down who.0 true }

    abbrev after : World
    after = record w {
      past = Crash who ∷ w.past;
      rounds = fallen;
      knows_holder = λ p d q. not (who.0 == p) && w.knows_holder p d q;
      knows_stable = λ p d. not (who.0 == p) && w.knows_stable p d;
    }

    was_up : w.rounds.down who.0 ≡ false
    was_up = k.down who.0 low ∙ up

    falls : RoundStep w.rounds fallen
    falls = crash who.0 was_up

    absent_still : AbsentAreDown (suc n) fallen
    absent_still =
        let down : (p : ℕ) → suc n ≤ p → fallen.down p ≡ true = λ p above. elim (set_at_cases w.rounds.down who.0 true p) [ inl is ↦ is.1 | inr other ↦ other.1 ∙ k.absent.down p above ] in
        assumption down

    logs_after : (d : Det) (p : ℕ) → with_value_at (det_state_of n w d).logs who.0 false p ≡ (det_state_of n after d).logs p
    logs_after d = set_at_is (det_state_of n w d).logs (det_state_of n after d).logs who.0 false (let apart = apart_is who.0 n low in grind (arith, eqb_tells who.0 who.0, apart)) (λ q other. grind (arith, eqb_tells who.0 q, other))

    recover_after : (d : Det) (p : ℕ) → with_value_at (det_state_of n w d).must_recover who.0 ((det_state_of n w d).logs who.0) p ≡ (det_state_of n after d).must_recover p
    recover_after d = set_at_is (det_state_of n w d).must_recover (det_state_of n after d).must_recover who.0 ((det_state_of n w d).logs who.0)
        (let apart = apart_is who.0 n low in let none = up_recovers_nothing who.0 d low was_up in grind (arith, eqb_tells who.0 who.0, apart, none)) (λ q other. grind (arith, eqb_tells who.0 q, other))

    dets : (d : Det) → DetInvariant (det_state_of n after d)
    dets d = subst (λ (a : DetState). DetInvariant a)
        (λ j. record { state = fallen; logs = λ p. logs_after d p j; must_recover = λ p. recover_after d p j; stable = (det_state_of n w d).stable; carriers = (det_state_of n w d).carriers; gathered = (det_state_of n w d).gathered })
        (det_step_preserves (det_state_of n w d) _ (det.crash who.0 was_up) k.rounds (k.dets d))

    own_logged : (p : ℕ) (d : Det) → p < n → with_value_at w.rounds.down who.0 true p ≡ false → d.dest.0 ≡ p → deliveries w.past p ≤ d.rsn → w.stored d ≡ true → logs after.past p d ≡ true
    own_logged p d small still dest next stored = grind (arith, set_at_cases w.rounds.down who.0 true p, eqb_tells who.0 p, k.own_logged p d small, still, dest, next, stored)

    down_after : (p : ℕ) → p < n → with_value_at w.rounds.down who.0 true p ≡ is_down after.past p
    down_after p small = grind (arith, eqb_tells who.0 p, eqb_tells p who.0, set_at_cases w.rounds.down who.0 true p, k.down p small)

    knew : (p : ℕ) (d : Det) → after.knows_stable p d ≡ true → w.knows_stable p d ≡ true
    knew p d h = (and_parts (not (who.0 == p)) (w.knows_stable p d) h).1

    pub crash_preserves : WorldInvariant n f after
    crash_preserves = assumption (
      next_state _ _ _ _ k.reached (crashes {w = volatile_of n after} who (assumption (knew, rounds_bring_nothing n w after falls k.rounds absent_still (λ i. refl) (λ i. refl) k.lanes))),
      round_step_preserves w.rounds fallen falls k.rounds,
      dets,
      absent_still,
      own_logged,
      down_after,
      set_at_away w.rounds.down who.0 true n (λ e. omega (arith, low, e)) ∙ k.storage.up,
    )

  pub learn_preserves : (p i : ℕ) (t : Packet) (known : ℕ → Det → ℕ → Bool) → w.rounds.down p ≡ false → w.packets i ≡ Some t → t.to ≡ p → w.rounds.floors p t.parcel.from ≤ t.lane
      → ((x : ℕ) (d : Det) (q : ℕ) → known x d q ≡ true → (w.knows_holder x d q ≡ true) ⊎ ((x ≡ p) × (logs w.past p d ≡ true) × (t.parcel.names_holder d q ≡ true)))
      → ((x : ℕ) (d : Det) (q : ℕ) → w.knows_holder x d q ≡ true → known x d q ≡ true)
      → WorldInvariant n f (record w { knows_holder = known })
  learn_preserves p i t known up at to floor new keeps =
      assumption (next_state w.past w.past (volatile_of n w) (volatile_of n (record w { knows_holder = known })) k.reached (silent (learns p (record {
        new_holders = λ x d q h. elim (new x d q h) [
          | inl old ↦ inl old
          | inr (is, logs_d, named) ↦ inr (is, logs_d, (t.parcel, in_transit_of n w i t at (is_accepted (suc n) w.rounds (carrier_of t) (by_floor (ap w.rounds.down to ∙ up) (subst (λ y. w.rounds.floors y t.parcel.from ≤ t.lane) (sym to) floor))), named))
        ];
        keeps_holders = keeps;
        new_stable = λ x d h. inl h;
        nothing_new = same_brings_nothing n w (record w { knows_holder = known }) refl (λ j. refl) (λ j. refl);
      }))))

  pub confirm_preserves : (marked : ℕ → Det → Bool) → ((x : ℕ) (d : Det) → marked x d ≡ true → (w.knows_stable x d ≡ true) ⊎ (is_stable w.past d ≡ true))
      → WorldInvariant n f (record w { knows_stable = marked })
  confirm_preserves marked new =
      assumption (next_state w.past w.past (volatile_of n w) (volatile_of n (record w { knows_stable = marked })) k.reached (silent (learns 0 (record {
        new_holders = λ x d q h. inl h;
        keeps_holders = λ x d q h. h;
        new_stable = new;
        nothing_new = same_brings_nothing n w (record w { knows_stable = marked }) refl (λ j. refl) (λ j. refl);
      }))))
