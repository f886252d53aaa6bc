-- Stable storage takes a write, an entry says what is stable, and a process forgets what is stable.
use Rattle.std.proofs.Common.{ℕ, suc, ◌≡◌, ◌<◌, ◌≤◌, inl, inr, Bool, true, false, not, ◌&&◌, ◌||◌, List, ◌∷◌, Some, None, refl, sym, ap, subst, ◌∙◌, arith}
use Rattle.std.specs.Prelude.{◌⊎◌, ◌==◌}
use Rattle.std.proofs.lemmas.Bool.{both_ways, or_cases, or_left, or_right, and_from, and_parts, not_from_false, eqb-true, cond-true, lt-ltb, false_from_ne_true, cases_lt, cases_eq, cases_Bool}
use Rattle.std.proofs.lemmas.Bool.Decides.{eqb_tells}
use Rattle.causal_name.specs.declared.Pid.{Pid}
use Rattle.causal_name.specs.declared.Det.{Det}
use Rattle.causal_name.specs.Names.{same_det}
use Rattle.causal_name.proofs.Lemmas.DetOrder.{same_is}
use Rattle.causal_trace.specs.declared.entry.Entry.TheVariants.{Stable, Forget}
use Rattle.causal_trace.specs.Past.{list_has, logs, is_stable, deliveries}
use Rattle.causal_steps.specs.Recovery.{must_recover, HasOrRecovers}
use Rattle.causal_steps.specs.Transit.{TransitParcel, IsInTransit, Survives}
use Rattle.causal_steps.specs.Invariant.{StepInvariant}
use Rattle.causal_steps.specs.Steps.{silent, learns, writes, forgets}
use Rattle.causal_steps.specs.Reachable.{next_state}
use Rattle.causal_steps.proofs.Lemmas.Reachable.{reachable_safe}
use Rattle.causal_rounds.specs.Rounds.{with_value_at, Round}
use Rattle.causal_rounds.specs.Gathered.{DetState, DetInvariant, take, record_stable, to_up}
use Rattle.causal_rounds.specs.Gathered as det
use Rattle.causal_rounds.specs.Acceptance.{by_floor}
use Rattle.causal_rounds.proofs.Lemmas.RoundSteps.{set_at_cases, some_is, set_at_here}
use Rattle.causal_rounds.proofs.Lemmas.GatheredSteps.{det_step_preserves, restarts_gather_all}
use Rattle.causal_world.specs.World.{Packet, World, carrier_of, is_acceptable, if_carries, volatile_of, det_state_of}
use Rattle.causal_world.specs.Invariant.{WorldInvariant}
use Rattle.causal_world.proofs.Lemmas.Functions.{set_at_is, apart_is}
use Rattle.causal_world.proofs.Lemmas.Transit.{packet_of, in_transit_of, landed_in_transit, is_accepted, same_brings_nothing}
use Rattle.causal_world.proofs.RoundChanges.{round_low}
use Rattle.causal_world.proofs.Crashes.{up_recovers_nothing}

module _ (n f : ℕ) (w : World) (k : WorldInvariant n f w) where
  facts : StepInvariant n f w.past (volatile_of n w)
  facts = (reachable_safe n f w.past (volatile_of n w) k.reached).facts

  -- a process that is up logs what survives of its deliveries, or that is stable
  up_logs : (p : ℕ) (d : Det) → p < n → w.rounds.down p ≡ false → d.dest.0 ≡ p → Survives n w.past (volatile_of n w) d → (is_stable w.past d ≡ true) ⊎ (logs w.past p d ≡ true)
  up_logs p d low up dest alive = elim (subst (λ x. HasOrRecovers w.past d x) dest (facts.receivers_have_survivors d alive)) [
    | inl stable ↦ inl stable
    | inr holds ↦ elim (or_cases (logs w.past p d) (must_recover w.past p d) holds) [ inl has_d ↦ inr has_d | inr lost ↦ absurd (both_ways (must_recover w.past p d) (up_recovers_nothing n f w k p d low up) lost) ]
  ]

  -- storage takes a write
  module _ (i : ℕ) (p : Packet) (at : w.packets i ≡ Some p) (to : p.to ≡ n) (floor : w.rounds.floors n p.parcel.from ≤ p.lane) where
    abbrev after : World
    after = record w { stored = λ d. w.stored d || p.parcel.carries d; landed = with_value_at w.landed i true }

    storage_up : w.rounds.down p.to ≡ false
    storage_up = ap w.rounds.down to ∙ k.storage.up

    floor_to : w.rounds.floors p.to p.parcel.from ≤ p.lane
    floor_to = subst (λ y. w.rounds.floors y p.parcel.from ≤ p.lane) (sym to) floor

    written : IsInTransit (volatile_of n w) p.parcel
    written = in_transit_of n w i p at (is_accepted (suc n) w.rounds (carrier_of p) (by_floor storage_up floor_to))

    nothing_new : (t : TransitParcel) → IsInTransit (volatile_of n after) t → IsInTransit (volatile_of n w) t
    nothing_new t there =
        let found = packet_of n after t there in
        subst (λ y. IsInTransit (volatile_of n w) y) found.4 (elim (or_cases (with_value_at w.landed i true found.0) (is_acceptable (suc n) w.rounds (carrier_of found.1)) found.3) [
          | inr accepted ↦ in_transit_of n w found.0 found.1 found.2 accepted
          | inl landed ↦ elim (set_at_cases w.landed i true found.0) [
            | inl is ↦ subst (λ (q : Packet). IsInTransit (volatile_of n w) q.parcel) (some_is p found.1 (sym at ∙ ap w.packets (sym is.0) ∙ found.2)) written
            | inr other ↦ landed_in_transit n w found.0 found.1 found.2 (sym other.1 ∙ landed)
          ]
        ])

    there : (d : Det) → p.parcel.carries d ≡ true → (det_state_of n w d).carriers i ≡ Some (carrier_of p)
    there d h = ap (if_carries d) at ∙ cond-true (p.parcel.carries d) (Some (carrier_of p)) None h

    abbrev with_logs : Det → (ℕ → Bool) → DetState
    with_logs d g = record { state = w.rounds; logs = g; must_recover = (det_state_of n w d).must_recover; stable = is_stable w.past d; carriers = (det_state_of n w d).carriers; gathered = (det_state_of n w d).gathered }

    logs_landed : (d : Det) → p.parcel.carries d ≡ true → (q : ℕ) → with_value_at (det_state_of n w d).logs n true q ≡ (det_state_of n after d).logs q
    logs_landed d h = set_at_is (det_state_of n w d).logs (det_state_of n after d).logs n true (grind (arith, eqb_tells n n, h)) (λ q other. grind (arith, eqb_tells q n, other))

    logs_same : (d : Det) → p.parcel.carries d ≡ false → (q : ℕ) → (det_state_of n w d).logs q ≡ (det_state_of n after d).logs q
    logs_same d h q = grind (arith, h)

    dets : (d : Det) → DetInvariant (det_state_of n after d)
    dets d = elim (cases_Bool (p.parcel.carries d)) [
      | inl is ↦ subst (λ (g : ℕ → Bool). DetInvariant (with_logs d g)) (λ j q. logs_landed d is q j) (det_step_preserves (det_state_of n w d) _ (take n i (carrier_of p) k.storage.up (there d is) floor) k.rounds (k.dets d))
      | inr is ↦ subst (λ (g : ℕ → Bool). DetInvariant (with_logs d g)) (λ j q. logs_same d is q j) (k.dets d)
    ]

    -- a round to which storage has replied has gathered what is written of its process's own deliveries
    gathered_own : (s : ℕ) (r : Round) (d : Det) → w.rounds.rounds s ≡ Some r → r.replied n ≡ true → p.parcel.carries d ≡ true → d.dest.0 ≡ s → w.gathered s d ≡ true
    gathered_own s r d here done carries dest = elim (subst (λ x. HasOrRecovers w.past d x) dest (facts.receivers_have_survivors d (inr (inr (p.parcel, written, carries))))) [
      | inl stable ↦ k.reads.own_gathered s r d here done (k.stores.stable_stored d stable) dest
      | inr holds ↦ elim (cases_Bool (is_stable w.past d)) [
        | inl stable ↦ k.reads.own_gathered s r d here done (k.stores.stable_stored d stable) dest
        | inr is ↦ elim (or_cases (logs w.past s d) (must_recover w.past s d) holds) [
          | inl has_d ↦ absurd (both_ways (w.rounds.down s) ((k.dets d).logs_up s (or_left _ _ (and_from _ _ (lt-ltb s n low) has_d))) (k.rounds.gathering_are_down s r here))
          | inr lost ↦ restarts_gather_all (det_state_of n w d) s r k.rounds (k.dets d) here all (and_from _ _ (lt-ltb s n low) lost) is (inr (i, carrier_of p, there d carries, to_up storage_up floor_to))
        ]
      ]
    ]
      where
        low : s < n
        low = round_low n f w k s r here

        all : (q : ℕ) → (q ≡ s → ⊥) → r.replied q ≡ true
        all q other = elim (cases_lt q n) [
          | inl below ↦ k.reads.last s r q here done below other
          | inr high ↦ elim (cases_eq q n) [ inl same ↦ ap r.replied same ∙ done | inr apart ↦ k.absent.replied s q r here (omega (arith, high, apart)) ]
        ]

    pub land_preserves : WorldInvariant n f after
    land_preserves = record {
      reached = next_state w.past w.past (volatile_of n w) (volatile_of n after) k.reached (silent (learns 0 (record { new_holders = λ x d q h. inl h; keeps_holders = λ x d q h. h; new_stable = λ x d h. inl h; nothing_new = nothing_new })));
      rounds = k.rounds;
      dets = dets;
      absent = k.absent;
      down = k.down;
      lanes = k.lanes;
      gathered_from = λ s r d here h. elim (k.gathered_from s r d here h) [ inl from ↦ inl from | inr stored ↦ inr (or_left _ _ stored) ];
      storage = k.storage;
      stores = record {
        stored_from = λ d h. elim (or_cases (w.stored d) (p.parcel.carries d) h) [
          | inl old ↦ let from = k.stores.stored_from d old in (from.0, from.1, from.2, elim (set_at_cases w.landed i true from.0) [ inl is ↦ is.1 | inr other ↦ other.1 ∙ from.3 ], from.4)
          | inr new ↦ (i, p, at, set_at_here w.landed i true, new)
        ];
        landed_stored = λ j h. elim (set_at_cases w.landed i true j) [
          | inl is ↦ (p, ap w.packets is.0 ∙ at, λ d c. or_right _ _ c)
          | inr other ↦ let old = k.stores.landed_stored j (sym other.1 ∙ h) in (old.0, old.1, λ d c. or_left _ _ (old.2 d c))
        ];
        stable_stored = λ d h. or_left _ _ (k.stores.stable_stored d h);
      };
      reads = record {
        last = k.reads.last;
        own_gathered = λ s r d here done h dest. elim (or_cases (w.stored d) (p.parcel.carries d) h) [ inl old ↦ k.reads.own_gathered s r d here done old dest | inr new ↦ gathered_own s r d here done new dest ];
      };
      own_logged = λ x d low up dest next h. elim (or_cases (w.stored d) (p.parcel.carries d) h) [
        | inl old ↦ k.own_logged x d low up dest next old
        | inr new ↦ elim (up_logs x d low up dest (inr (inr (p.parcel, written, new)))) [ inl stable ↦ k.own_logged x d low up dest next (k.stores.stable_stored d stable) | inr has_d ↦ has_d ]
      ];
    }

  -- what is stored is recorded as stable
  pub write_preserves : (det : Det) (marked : ℕ → Det → Bool) → w.stored det ≡ true → ((x : ℕ) (d : Det) → marked x d ≡ true → (w.knows_stable x d ≡ true) ⊎ (same_det d det ≡ true))
      → WorldInvariant n f (record w { past = Stable det ∷ w.past; knows_stable = marked })
  write_preserves det marked stored new = assumption (
    next_state _ _ _ _ k.reached (writes {w = volatile_of n written_world} det (assumption (survived, same_brings_nothing n w written_world refl (λ j. refl) (λ j. refl)))),
    dets_written,
    stable_stored,
  )
    where
      written_world : World
      written_world = record w { past = Stable det ∷ w.past; knows_stable = marked }

      survived : Survives n w.past (volatile_of n w) det
      survived = let from = k.stores.stored_from det stored in inr (inr (from.1.parcel, landed_in_transit n w from.0 from.1 from.2 from.3, from.4))

      stable_stored : (d : Det) → is_stable written_world.past d ≡ true → w.stored d ≡ true
      stable_stored d h = elim (or_cases (same_det d det) (is_stable w.past d) h) [ inl is ↦ subst (λ x. w.stored x ≡ true) (sym (same_is d det is)) stored | inr old ↦ k.stores.stable_stored d old ]

      with_stable : Det → Bool → DetState
      with_stable d b = record { state = w.rounds; logs = (det_state_of n w d).logs; must_recover = (det_state_of n w d).must_recover; stable = b; carriers = (det_state_of n w d).carriers; gathered = (det_state_of n w d).gathered }

      dets_written : (d : Det) → DetInvariant (with_stable d (same_det d det || is_stable w.past d))
      dets_written d = elim (cases_Bool (same_det d det)) [
        | inl is ↦ subst (λ b. DetInvariant (with_stable d b)) (sym (or_left (same_det d det) (is_stable w.past d) is)) (det_step_preserves (det_state_of n w d) _ record_stable k.rounds (k.dets d))
        | inr is ↦ subst (λ b. DetInvariant (with_stable d b)) (ap (λ b. b || is_stable w.past d) (sym is)) (k.dets d)
      ]

  -- a process forgets
  module _ (who : Pid) (listed : List Det) (low : who.0 < n) (known : (d : Det) → list_has listed d ≡ true → w.knows_stable who.0 d ≡ true) (spares : (d : Det) → list_has listed d ≡ true → d.dest.0 ≡ who.0 → d.rsn < deliveries w.past who.0) where
    abbrev lessened : World
    lessened = record w {
      past = Forget who listed ∷ w.past;
      knows_holder = λ p d q. not (who.0 == p && list_has listed d) && w.knows_holder p d q;
      knows_stable = λ p d. not (who.0 == p && list_has listed d) && w.knows_stable p d;
    }

    abbrev with_less : Det → (ℕ → Bool) → DetState
    with_less d g = record { state = w.rounds; logs = g; must_recover = (det_state_of n w d).must_recover; stable = is_stable w.past d; carriers = (det_state_of n w d).carriers; gathered = (det_state_of n w d).gathered }

    logs_forgotten : (d : Det) → list_has listed d ≡ true → (q : ℕ) → with_value_at (det_state_of n w d).logs who.0 false q ≡ (det_state_of n lessened d).logs q
    logs_forgotten d h = set_at_is (det_state_of n w d).logs (det_state_of n lessened d).logs who.0 false (let apart = apart_is who.0 n low in grind (arith, eqb_tells who.0 who.0, apart, h)) (λ q other. grind (arith, eqb_tells who.0 q, other))

    logs_left : (d : Det) → list_has listed d ≡ false → (q : ℕ) → (det_state_of n w d).logs q ≡ (det_state_of n lessened d).logs q
    logs_left d h q = grind (arith, h)

    dets_left : (d : Det) → DetInvariant (det_state_of n lessened d)
    dets_left d = elim (cases_Bool (list_has listed d)) [
      | inl is ↦ subst (λ (g : ℕ → Bool). DetInvariant (with_less d g)) (λ j q. logs_forgotten d is q j) (det_step_preserves (det_state_of n w d) _ (det.forget who.0 (facts.known_stable_true who.0 d low (known d is))) k.rounds (k.dets d))
      | inr is ↦ subst (λ (g : ℕ → Bool). DetInvariant (with_less d g)) (λ j q. logs_left d is q j) (k.dets d)
    ]

    own_left : (p : ℕ) (d : Det) → p < n → w.rounds.down p ≡ false → d.dest.0 ≡ p → deliveries w.past p ≤ d.rsn → w.stored d ≡ true → (not (who.0 == p && list_has listed d) && logs w.past p d) ≡ true
    own_left p d small up dest next stored = and_from _ _ (not_from_false _ (false_from_ne_true (who.0 == p && list_has listed d) repeated)) (k.own_logged p d small up dest next stored)
      where
        repeated : (who.0 == p && list_has listed d) ≡ true → ⊥
        repeated is =
            let parts = and_parts (who.0 == p) (list_has listed d) is in
            let same : who.0 ≡ p = eqb-true who.0 p parts.0 in
            let before = spares d parts.1 (dest ∙ sym same) in
            let next_who : deliveries w.past who.0 ≤ d.rsn = subst (λ x. deliveries w.past x ≤ d.rsn) (sym same) next in
            omega (arith, before, next_who)

    pub forget_preserves : WorldInvariant n f lessened
    forget_preserves = assumption (
      next_state _ _ _ _ k.reached (forgets {w = volatile_of n lessened} who listed (assumption (knew, same_brings_nothing n w lessened refl (λ j. refl) (λ j. refl)))),
      dets_left,
      own_left,
    )
      where
        knew : (p : ℕ) (d : Det) → (not (who.0 == p && list_has listed d) && w.knows_stable p d) ≡ true → w.knows_stable p d ≡ true
        knew p d h = (and_parts (not (who.0 == p && list_has listed d)) (w.knows_stable p d) h).1
