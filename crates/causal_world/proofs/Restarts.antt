-- A process to which all others have replied comes up.
use Rattle.std.proofs.Common.{ℕ, suc, ◌≡◌, ◌<◌, ◌≤◌, ◌+◌, inl, inr, Bool, true, false, ◌&&◌, ◌||◌, nat_lt, List, ◌∷◌, Some, None, refl, sym, ap, subst, ◌∙◌, arith}
use Rattle.std.specs.Prelude.{◌⊎◌, ◌==◌}
use Rattle.std.proofs.lemmas.Bool.{both_ways, or_cases, or_left, or_right, and_from, eq-eqb, cond-true, lt-ltb, false_from_ne_true, cases_lt, cases_Bool}
use Rattle.std.proofs.lemmas.Bool.Decides.{eqb_tells}
use Rattle.causal_name.specs.declared.Pid.{Pid}
use Rattle.causal_name.specs.declared.Det.{Det}
use Rattle.causal_trace.specs.declared.entry.Entry.TheVariants.{Restart}
use Rattle.causal_trace.specs.Past.{list_has, is_down, logs, is_stable, deliveries}
use Rattle.causal_steps.specs.Recovery.{must_recover}
use Rattle.causal_steps.specs.Transit.{TransitParcel, IsInTransit, IsLoggedBySome, IsCarried, Survives}
use Rattle.causal_steps.specs.Steps.{restarts}
use Rattle.causal_steps.specs.Reachable.{next_state}
use Rattle.causal_rounds.specs.Rounds.{with_value_at, Round, RecoveryState, RoundStep, RoundInvariant, restart}
use Rattle.causal_rounds.specs.Gathered.{Carrier, DetState, DetStep, DetInvariant, MayComplete}
use Rattle.causal_rounds.specs.Gathered as det
use Rattle.causal_rounds.specs.Acceptance.{IsAcceptable, by_round}
use Rattle.causal_rounds.proofs.Lemmas.RoundSteps.{set_at_cases, some_is, none_some, round_step_preserves, set_at_here, set_at_away}
use Rattle.causal_rounds.proofs.Lemmas.GatheredSteps.{det_step_preserves}
use Rattle.causal_rounds.proofs.Lemmas.AcceptanceSteps.{restarts_miss_nothing}
use Rattle.causal_world.specs.World.{Packet, World, GatheredFrom, carrier_of, is_acceptable, if_carries, volatile_of, det_state_of}
use Rattle.causal_world.specs.Invariant.{AbsentAreDown, WorldInvariant}
use Rattle.causal_world.proofs.Lemmas.Functions.{set_at_is, apart_is}
use Rattle.causal_world.proofs.Lemmas.Transit.{packet_of, in_transit_of, landed_in_transit, acceptable_is, is_accepted, rounds_bring_nothing}

module _ (n f : ℕ) (w : World) (k : WorldInvariant n f w) (who : Pid) (listed : List Det) (r : Round) (known : ℕ → Det → ℕ → Bool) (marked : ℕ → Det → Bool) (low : who.0 < n) (at : w.rounds.rounds who.0 ≡ Some r)
    (all_low : (q : ℕ) → q < suc n → (q ≡ who.0 → ⊥) → r.replied q ≡ true) (lists : (d : Det) → w.gathered who.0 d ≡ true → (list_has listed d ≡ true) ⊎ (is_stable w.past d ≡ true))
    (owns : (d : Det) → w.gathered who.0 d ≡ true → d.dest.0 ≡ who.0 → list_has listed d ≡ true) (from_where : (d : Det) → list_has listed d ≡ true → (w.gathered who.0 d ≡ true) ⊎ (GatheredFrom w who.0 r d ⊎ (is_stable w.past d ≡ true))) where
  abbrev risen : RecoveryState
  risen = record { lane = with_value_at w.rounds.lane who.0 (w.rounds.lane who.0 + 1); down = with_value_at w.rounds.down who.0 false; floors = with_value_at w.rounds.floors who.0 r.view; rounds = with_value_at w.rounds.rounds who.0 None }

  abbrev after : World
  after = record w { past = Restart who listed ∷ w.past; rounds = risen; knows_holder = known; knows_stable = marked }

  all : (q : ℕ) → (q ≡ who.0 → ⊥) → r.replied q ≡ true
  all q other = elim (cases_lt q (suc n)) [ inl small ↦ all_low q small other | inr high ↦ k.absent.replied who.0 q r at high ]

  rises : RoundStep w.rounds risen
  rises = restart who.0 r at all

  was_down : w.rounds.down who.0 ≡ true
  was_down = k.rounds.gathering_are_down who.0 r at

  past_down : is_down w.past who.0 ≡ true
  past_down = sym (k.down who.0 low) ∙ was_down

  -- a process that is down logs nothing
  logged_nothing : (d : Det) → logs w.past who.0 d ≡ false
  logged_nothing d = false_from_ne_true (logs w.past who.0 d) (λ is. both_ways (w.rounds.down who.0) ((k.dets d).logs_up who.0 (or_left _ _ (and_from _ _ (lt-ltb who.0 n low) is))) was_down)

  high_away : (p : ℕ) → suc n ≤ p → p ≡ who.0 → ⊥
  high_away p above is = omega (arith, low, above, is)

  old_round : (s : ℕ) (o : Round) → with_value_at w.rounds.rounds who.0 None s ≡ Some o → w.rounds.rounds s ≡ Some o
  old_round s o there = elim (set_at_cases w.rounds.rounds who.0 None s) [ inl is ↦ absurd (none_some o (sym is.1 ∙ there)) | inr other ↦ sym other.1 ∙ there ]

  absent_still : AbsentAreDown (suc n) risen
  absent_still = record {
    down = λ p above. set_at_away w.rounds.down who.0 false p (high_away p above) ∙ k.absent.down p above;
    no_round = λ p above. set_at_away w.rounds.rounds who.0 None p (high_away p above) ∙ k.absent.no_round p above;
    replied = λ s p o there above. k.absent.replied s p o (old_round s o there) above;
  }

  opened : MayComplete w.rounds who.0 r
  opened q other no_reply = absurd (both_ways (r.replied q) no_reply (all q other))

  -- what was sent to the process from a lane of its view is in transit to its round
  to_round : (i : ℕ) (p : Packet) → w.packets i ≡ Some p → p.to ≡ who.0 → r.replied p.parcel.from ≡ true → r.view p.parcel.from ≤ p.lane → IsInTransit (volatile_of n w) p.parcel
  to_round i p there to replied above = in_transit_of n w i p there (is_accepted (suc n) w.rounds (carrier_of p) (by_round r (ap w.rounds.down to ∙ was_down) (ap w.rounds.rounds to ∙ at) (subst (λ s. MayComplete w.rounds s r) (sym to) opened) replied above))

  stored_alive : (d : Det) → w.stored d ≡ true → Survives n w.past (volatile_of n w) d
  stored_alive d h = let from = k.stores.stored_from d h in inr (inr (from.1.parcel, landed_in_transit n w from.0 from.1 from.2 from.3, from.4))

  sent_alive : (d : Det) → GatheredFrom w who.0 r d → Survives n w.past (volatile_of n w) d
  sent_alive d from = inr (inr (from.1.parcel, to_round from.0 from.1 from.2 from.3 from.5 from.6, from.4))

  listed_alive : (d : Det) → list_has listed d ≡ true → Survives n w.past (volatile_of n w) d
  listed_alive d h = elim (from_where d h) [
    | inl got ↦ elim (k.gathered_from who.0 r d at got) [ inl from ↦ sent_alive d from | inr stored ↦ stored_alive d stored ]
    | inr (inl from) ↦ sent_alive d from
    | inr (inr stable) ↦ inl stable
  ]

  recovers : (d : Det) → must_recover w.past who.0 d ≡ true → IsLoggedBySome n w.past d ⊎ IsCarried (volatile_of n after) d → (list_has listed d ≡ true) ⊎ (is_stable w.past d ≡ true)
  recovers d lost there = elim (cases_Bool (is_stable w.past d)) [
    | inl is ↦ inr is
    | inr is ↦ lists d (restarts_miss_nothing (det_state_of n w d) who.0 r risen k.rounds (k.dets d) at all refl (and_from _ _ (lt-ltb who.0 n low) lost) is (seen there))
  ]
    where
      logs_stored : w.stored d ≡ true → (det_state_of n w d).logs n ≡ true
      logs_stored h = or_right _ _ (and_from _ _ (eq-eqb n n refl) h)

      seen : IsLoggedBySome n w.past d ⊎ IsCarried (volatile_of n after) d → ((y : ℕ) × ((det_state_of n w d).logs y ≡ true)) ⊎ ((i : ℕ) × (t : Carrier) × ((det_state_of n w d).carriers i ≡ Some t) × IsAcceptable risen t)
      seen (inl (y, below, has_d)) = inl (y, or_left _ _ (and_from _ _ (lt-ltb y n below) has_d))
      seen (inr (t, in_transit, has_d)) =
          let found = packet_of n after t in_transit in
          let carries : found.1.parcel.carries d ≡ true = ap (λ (x : TransitParcel). x.carries d) found.4 ∙ has_d in
          elim (or_cases (w.landed found.0) (is_acceptable (suc n) risen (carrier_of found.1)) found.3) [
            | inl landed ↦
                let stored = k.stores.landed_stored found.0 landed in
                let same : found.1 ≡ stored.0 = some_is found.1 stored.0 (sym found.2 ∙ stored.1) in
                inl (n, logs_stored (stored.2 d (subst (λ (p : Packet). p.parcel.carries d ≡ true) same carries)))
            | inr accepted ↦ inr (found.0, carrier_of found.1, ap (if_carries d) found.2 ∙ cond-true (found.1.parcel.carries d) (Some (carrier_of found.1)) None carries, acceptable_is (suc n) risen absent_still (carrier_of found.1) accepted)
          ]

  abbrev logs_before : Det → ℕ → Bool
  logs_before d q = (nat_lt q n && logs w.past q d) || (q == n && w.stored d)

  -- a function that differs from what is logged only in that the process logs what it lists
  logs_after : (d : Det) (f : ℕ → Bool) (b : Bool) → list_has listed d ≡ b → ((q : ℕ) → (q ≡ who.0 → ⊥) → f q ≡ logs_before d q) → (p : ℕ) → with_value_at f who.0 b p ≡ (det_state_of n after d).logs p
  logs_after d f b is away = set_at_is f (det_state_of n after d).logs who.0 b
      (let small = lt-ltb who.0 n low in let none = logged_nothing d in let apart = apart_is who.0 n low in grind (arith, eqb_tells who.0 who.0, small, none, apart, is))
      (λ q other. sym (away q other ∙ grind (arith, eqb_tells who.0 q, other)))

  recover_after : (d : Det) (p : ℕ) → with_value_at (det_state_of n w d).must_recover who.0 false p ≡ (det_state_of n after d).must_recover p
  recover_after d = set_at_is (det_state_of n w d).must_recover (det_state_of n after d).must_recover who.0 false (grind (arith, eqb_tells who.0 who.0)) (λ q other. grind (arith, eqb_tells who.0 q, other))

  abbrev risen_det : Det → (ℕ → Bool) → DetState
  risen_det d g = record { state = risen; logs = g; must_recover = with_value_at (λ q. nat_lt q n && must_recover w.past q d) who.0 false; stable = is_stable w.past d; carriers = (det_state_of n w d).carriers; gathered = (det_state_of n w d).gathered }

  dets : (d : Det) → DetInvariant (det_state_of n after d)
  dets d = by (list_has listed d) (w.gathered who.0 d) refl refl
    where
      reach : (f : ℕ → Bool) (b : Bool) → list_has listed d ≡ b → ((q : ℕ) → (q ≡ who.0 → ⊥) → f q ≡ logs_before d q) → DetInvariant (risen_det d (with_value_at f who.0 b)) → DetInvariant (det_state_of n after d)
      reach f b is away h = subst (λ (a : DetState). DetInvariant a) (λ j. record (risen_det d (λ p. logs_after d f b is away p j)) { must_recover = λ p. recover_after d p j }) h

      first : ℕ → Bool
      first = with_value_at (logs_before d) who.0 (w.gathered who.0 d)

      restarted : DetInvariant (risen_det d first)
      restarted = det_step_preserves (det_state_of n w d) _ (det.restart who.0 r at all) k.rounds (k.dets d)

      rounds_risen : RoundInvariant risen
      rounds_risen = round_step_preserves w.rounds risen rises k.rounds

      is_up : risen.down who.0 ≡ false
      is_up = set_at_here w.rounds.down who.0 false

      as_gathered : list_has listed d ≡ w.gathered who.0 d → DetInvariant (det_state_of n after d)
      as_gathered same = reach (logs_before d) (w.gathered who.0 d) same (λ q other. refl) restarted

      again : (b : Bool) → list_has listed d ≡ b → DetStep (risen_det d first) (risen_det d (with_value_at first who.0 b)) → DetInvariant (det_state_of n after d)
      again b is step = reach first b is (λ q other. set_at_away (logs_before d) who.0 (w.gathered who.0 d) q other) (det_step_preserves (risen_det d first) _ step rounds_risen restarted)

      by : (b c : Bool) → list_has listed d ≡ b → w.gathered who.0 d ≡ c → DetInvariant (det_state_of n after d)
      by true true is got = as_gathered (is ∙ sym got)
      by false false is got = as_gathered (is ∙ sym got)
      by false true is got = elim (lists d got) [ inl h ↦ absurd (both_ways (list_has listed d) is h) | inr stable ↦ again false is (det.forget who.0 stable) ]
      by true false is lacks = elim (from_where d is) [
        | inl got ↦ absurd (both_ways (w.gathered who.0 d) lacks got)
        | inr (inl from) ↦
            let carrier : (det_state_of n w d).carriers from.0 ≡ Some (carrier_of from.1) = ap (if_carries d) from.2 ∙ cond-true (from.1.parcel.carries d) (Some (carrier_of from.1)) None from.4 in
            let floor : risen.floors who.0 from.1.parcel.from ≤ from.1.lane = subst (λ g. g from.1.parcel.from ≤ from.1.lane) (sym (set_at_here w.rounds.floors who.0 r.view)) from.6 in
            again true is (det.take who.0 from.0 (carrier_of from.1) is_up carrier floor)
        | inr (inr stable) ↦ again true is (det.deliver_again who.0 is_up (inr stable))
      ]

  pub restart_preserves : ((x : ℕ) (d : Det) (q : ℕ) → known x d q ≡ true
      → (w.knows_holder x d q ≡ true)
      ⊎ ((who.0 ≡ x) × (list_has listed d ≡ true) × ((q ≡ who.0) ⊎ ((i : ℕ) × (p : Packet) × (w.packets i ≡ Some p) × (p.to ≡ who.0) × (r.replied p.parcel.from ≡ true) × (r.view p.parcel.from ≤ p.lane) × (p.parcel.names_holder d q ≡ true)))))
      → ((d : Det) → list_has listed d ≡ true → known who.0 d who.0 ≡ true)
      → ((x : ℕ) (d : Det) (q : ℕ) → w.knows_holder x d q ≡ true → known x d q ≡ true)
      → ((x : ℕ) (d : Det) → marked x d ≡ true → (w.knows_stable x d ≡ true) ⊎ (is_stable w.past d ≡ true))
      → WorldInvariant n f after
  restart_preserves new itself keeps marks = record {
    reached = next_state w.past (Restart who listed ∷ w.past) (volatile_of n w) (volatile_of n after) k.reached (restarts who listed (record {
      process = low;
      down = past_down;
      lists_survivors = listed_alive;
      recovers = recovers;
      new_holders = λ x d q h. elim (new x d q h) [
        | inl old ↦ inl old
        | inr (is, lists_d, inl me) ↦ inr (is, lists_d, inl me)
        | inr (is, lists_d, inr (i, p, there, to, replied, above, named)) ↦ inr (is, lists_d, inr (inr (p.parcel, to_round i p there to replied above, named)))
      ];
      knows_itself = itself;
      keeps_holders = keeps;
      new_stable = marks;
      nothing_new = rounds_bring_nothing n w after rises k.rounds absent_still (λ i. refl) (λ i. refl) k.lanes;
    }));
    rounds = round_step_preserves w.rounds risen rises k.rounds;
    dets = dets;
    absent = absent_still;
    down = λ p small. grind (arith, eqb_tells who.0 p, eqb_tells p who.0, set_at_cases w.rounds.down who.0 false p, k.down p small);
    lanes = λ i p there. grind (arith, set_at_cases w.rounds.lane who.0 (w.rounds.lane who.0 + 1) p.parcel.from, k.lanes i p there);
    gathered_from = λ s o d there h. k.gathered_from s o d (old_round s o there) h;
    storage = record {
      up = set_at_away w.rounds.down who.0 false n not_storage ∙ k.storage.up;
      no_round = set_at_away w.rounds.rounds who.0 None n not_storage ∙ k.storage.no_round;
      first_lane = set_at_away w.rounds.lane who.0 (w.rounds.lane who.0 + 1) n not_storage ∙ k.storage.first_lane;
    };
    stores = record { stored_from = k.stores.stored_from; landed_stored = k.stores.landed_stored; stable_stored = k.stores.stable_stored };
    reads = record { last = λ s o q there done small other. k.reads.last s o q (old_round s o there) done small other; own_gathered = λ s o d there done stored dest. k.reads.own_gathered s o d (old_round s o there) done stored dest };
    own_logged = λ p d small still dest next stored. own p d small still dest next stored;
  }
    where
      not_storage : n ≡ who.0 → ⊥
      not_storage is = omega (arith, low, is)

      own : (p : ℕ) (d : Det) → p < n → with_value_at w.rounds.down who.0 false p ≡ false → d.dest.0 ≡ p → deliveries (Restart who listed ∷ w.past) p ≤ d.rsn → w.stored d ≡ true → logs (Restart who listed ∷ w.past) p d ≡ true
      own p d small still dest next stored =
          grind (arith, set_at_cases w.rounds.down who.0 false p, eqb_tells who.0 p, owns d, k.reads.own_gathered who.0 r d at (all n not_storage) stored, k.own_logged p d small, still, dest, next, stored)
