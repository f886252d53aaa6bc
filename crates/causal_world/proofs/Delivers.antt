-- A process delivers a message.
use Rattle.std.proofs.Common.{ℕ, suc, ◌≡◌, ◌<◌, ◌≤◌, inl, inr, Bool, true, false, not, ◌&&◌, ◌||◌, nat_lt, List, ◌∷◌, Some, None, refl, sym, ap, subst, ◌∙◌, arith}
use Rattle.std.specs.Prelude.{◌⊎◌, ◌==◌}
use Rattle.std.specs.Option.{option_map}
use Rattle.std.proofs.lemmas.Bool.{both_ways, or_cases, or_left, or_right, and_from, cond-true, lt-ltb, false_from_ne_true, cases_Bool}
use Rattle.std.proofs.lemmas.Bool.Decides.{eqb_tells}
use Rattle.causal_name.specs.declared.Pid.{Pid}
use Rattle.causal_name.specs.declared.MsgName.{MsgName}
use Rattle.causal_name.specs.declared.Det.{Det}
use Rattle.causal_name.specs.Names.{same_det, message_of}
use Rattle.causal_name.proofs.Lemmas.DetOrder.{same_itself, same_is}
use Rattle.causal_trace.specs.declared.entry.Entry.{Entry}
use Rattle.causal_trace.specs.declared.entry.Entry.TheVariants.{Deliver}
use Rattle.causal_trace.specs.Past.{list_has, is_down, logs, is_stable, deliveries, message_at, det_of, is_det, det_from}
use Rattle.causal_steps.specs.Recovery.{must_recover, delivers_as_new, HasOrRecovers}
use Rattle.causal_steps.specs.Steps.{delivers}
use Rattle.causal_steps.specs.Reachable.{next_state}
use Rattle.causal_rounds.specs.Rounds.{with_value_at}
use Rattle.causal_rounds.specs.Gathered.{DetState, DetInvariant, take, deliver_again, deliver_as_new}
use Rattle.causal_rounds.specs.Acceptance.{by_floor}
use Rattle.causal_rounds.proofs.Lemmas.GatheredSteps.{det_step_preserves}
use Rattle.causal_world.specs.World.{Packet, World, carrier_of, if_carries, volatile_of, det_state_of}
use Rattle.causal_world.specs.Invariant.{WorldInvariant}
use Rattle.causal_world.proofs.Lemmas.Functions.{set_at_is}
use Rattle.causal_world.proofs.Lemmas.Transit.{in_transit_of, is_accepted, same_brings_nothing}
use Rattle.causal_world.proofs.Crashes.{up_recovers_nothing}

module _ (n f : ℕ) (w : World) (k : WorldInvariant n f w) (to : Pid) (send rsn : ℕ) (listed : List Det) (i : ℕ) (p : Packet) (message : MsgName) (known : ℕ → Det → ℕ → Bool) (low : to.0 < n) (up : w.rounds.down to.0 ≡ false)
    (at : w.packets i ≡ Some p) (mine : p.to ≡ to.0) (floor : w.rounds.floors to.0 p.parcel.from ≤ p.lane) (position : p.parcel.send ≡ Some send) (sent : message_at w.past send ≡ Some message)
    (count : rsn ≡ deliveries w.past to.0) (only : (d : Det) → logs w.past to.0 d ≡ true → d.dest ≡ to → d.rsn ≡ rsn → message_of d ≡ message) (lists : (d : Det) → list_has listed d ≡ (same_det d (det_from to rsn message) || p.parcel.carries d)) where
  abbrev e : Entry
  e = Deliver to send rsn listed

  abbrev own : Det
  own = det_from to rsn message

  abbrev after : World
  after = record w { past = Deliver to send rsn listed ∷ w.past; knows_holder = known }

  own_det : det_of w.past e ≡ Some own
  own_det = ap (λ x. option_map (det_from to rsn) x) sent

  not_down : is_down w.past to.0 ≡ false
  not_down = sym (k.down to.0 low) ∙ up

  -- another determinant is not delivered as new
  other_not_new : (d : Det) → same_det own d ≡ false → delivers_as_new w.past to.0 e d ≡ false
  other_not_new d differ = ap (λ o. is_det o d && not (logs w.past to.0 d || is_stable w.past d)) own_det ∙ grind (arith, differ)

  -- nor is one that the receiver logs
  logged_not_new : (d : Det) → logs w.past to.0 d ≡ true → delivers_as_new w.past to.0 e d ≡ false
  logged_not_new d has_d = grind (arith, has_d)

  -- nor is one that is stable
  stable_not_new : (d : Det) → is_stable w.past d ≡ true → delivers_as_new w.past to.0 e d ≡ false
  stable_not_new d stable = grind (arith, stable)

  is_new : (d : Det) → same_det own d ≡ true → logs w.past to.0 d ≡ false → is_stable w.past d ≡ false → delivers_as_new w.past to.0 e d ≡ true
  is_new d same lacks unstable = ap (λ o. is_det o d && not (logs w.past to.0 d || is_stable w.past d)) own_det ∙ grind (arith, same, lacks, unstable)

  abbrev state_with : Det → (ℕ → Bool) → (ℕ → Bool) → DetState
  state_with d logged recover = record { state = w.rounds; logs = logged; must_recover = recover; stable = is_stable w.past d; carriers = λ j. if_carries d (w.packets j); gathered = λ s. w.gathered s d }

  abbrev logs_before : Det → ℕ → Bool
  logs_before d q = (nat_lt q n && logs w.past q d) || (q == n && w.stored d)

  abbrev recover_before : Det → ℕ → Bool
  recover_before d q = nat_lt q n && must_recover w.past q d

  -- what the receiver logs afterwards, and what is still to be recovered
  logs_listed : (d : Det) → list_has listed d ≡ true → (q : ℕ) → with_value_at (logs_before d) to.0 true q ≡ (det_state_of n after d).logs q
  logs_listed d h = set_at_is (logs_before d) (det_state_of n after d).logs to.0 true (let small = lt-ltb to.0 n low in grind (arith, eqb_tells to.0 to.0, small, h)) (λ q other. grind (arith, eqb_tells to.0 q, other))

  logs_unlisted : (d : Det) → list_has listed d ≡ false → (q : ℕ) → logs_before d q ≡ (det_state_of n after d).logs q
  logs_unlisted d h q = grind (arith, h)

  recover_old : (d : Det) → delivers_as_new w.past to.0 e d ≡ false → (q : ℕ) → recover_before d q ≡ (nat_lt q n && (not (delivers_as_new w.past to.0 e d) && must_recover w.past q d))
  recover_old d old q = ap (λ b. nat_lt q n && (not b && must_recover w.past q d)) (sym old)

  recover_new : (d : Det) → delivers_as_new w.past to.0 e d ≡ true → (q : ℕ) → false ≡ (nat_lt q n && (not (delivers_as_new w.past to.0 e d) && must_recover w.past q d))
  recover_new d new q = grind (arith, new)

  -- the invariant of each determinant after the delivery
  dets : (d : Det) → DetInvariant (det_state_of n after d)
  dets d = elim (cases_Bool (list_has listed d)) [
    | inr lacks ↦ reach (logs_before d) (recover_before d) (logs_unlisted d lacks) (recover_old d (other_not_new d (differs lacks))) (k.dets d)
    | inl lists_d ↦ elim (cases_Bool (same_det own d)) [
      | inl same ↦ elim (cases_Bool (logs w.past to.0 d)) [
        | inl has_d ↦ listed_now lists_d (recover_before d) (recover_old d (logged_not_new d has_d)) (det_step_preserves (det_state_of n w d) _ (deliver_again to.0 up (inl (or_left _ _ (and_from _ _ (lt-ltb to.0 n low) has_d)))) k.rounds (k.dets d))
        | inr lacks ↦ elim (cases_Bool (is_stable w.past d)) [
          | inl is ↦ listed_now lists_d (recover_before d) (recover_old d (stable_not_new d is)) (det_step_preserves (det_state_of n w d) _ (deliver_again to.0 up (inr is)) k.rounds (k.dets d))
          | inr is ↦ listed_now lists_d (λ q. false) (recover_new d (is_new d same lacks is)) (det_step_preserves (det_state_of n w d) _ (deliver_as_new to.0 up) k.rounds (k.dets d))
        ]
      ]
      | inr differ ↦
          let carries : p.parcel.carries d ≡ true = elim (or_cases (same_det d own) (p.parcel.carries d) (sym (lists d) ∙ lists_d)) [
            | inl is ↦ absurd (both_ways (same_det own d) differ (subst (λ x. same_det own x ≡ true) (sym (same_is d own is)) (same_itself own)))
            | inr goes ↦ goes
          ] in
          let there : if_carries d (w.packets i) ≡ Some (carrier_of p) = ap (if_carries d) at ∙ cond-true (p.parcel.carries d) (Some (carrier_of p)) None carries in
          listed_now lists_d (recover_before d) (recover_old d (other_not_new d differ)) (det_step_preserves (det_state_of n w d) _ (take to.0 i (carrier_of p) up there floor) k.rounds (k.dets d))
    ]
  ]
    where
      reach : (logged recover : ℕ → Bool) → ((q : ℕ) → logged q ≡ (det_state_of n after d).logs q) → ((q : ℕ) → recover q ≡ (det_state_of n after d).must_recover q) → DetInvariant (state_with d logged recover) → DetInvariant (det_state_of n after d)
      reach logged recover same_logs same_recover h = subst (λ (a : DetState). DetInvariant a) (λ j. state_with d (λ q. same_logs q j) (λ q. same_recover q j)) h

      listed_now : list_has listed d ≡ true → (recover : ℕ → Bool) → ((q : ℕ) → recover q ≡ (det_state_of n after d).must_recover q) → DetInvariant (state_with d (with_value_at (logs_before d) to.0 true) recover) → DetInvariant (det_state_of n after d)
      listed_now lists_d recover = reach (with_value_at (logs_before d) to.0 true) recover (logs_listed d lists_d)

      differs : list_has listed d ≡ false → same_det own d ≡ false
      differs lacks = false_from_ne_true (same_det own d) (λ same. both_ways (list_has listed d) lacks (lists d ∙ or_left _ _ (subst (λ x. same_det x own ≡ true) (same_is own d same) (same_itself own))))

  pub deliver_preserves : ((x : ℕ) (d : Det) (q : ℕ) → known x d q ≡ true → (w.knows_holder x d q ≡ true) ⊎ ((to.0 ≡ x) × (list_has listed d ≡ true) × ((p.parcel.names_holder d q ≡ true) ⊎ (q ≡ to.0))))
      → ((d : Det) → list_has listed d ≡ true → known to.0 d to.0 ≡ true)
      → ((x : ℕ) (d : Det) (q : ℕ) → w.knows_holder x d q ≡ true → known x d q ≡ true)
      → WorldInvariant n f after
  deliver_preserves new itself keeps = assumption (
    next_state _ _ _ (volatile_of n after) k.reached (delivers to send rsn listed (record {
      process = low;
      up = not_down;
      message = message;
      sent = sent;
      delivered = p.parcel;
      in_transit = in_transit_of n w i p at (is_accepted (suc n) w.rounds (carrier_of p) (by_floor (ap w.rounds.down mine ∙ up) (subst (λ y. w.rounds.floors y p.parcel.from ≤ p.lane) (sym mine) floor)));
      position = position;
      only = λ d found dest place. only d (logged d found dest place) dest place;
      lists = lists;
      new_holders = new;
      knows_itself = itself;
      keeps_holders = keeps;
      new_stable = λ x d h. h;
      nothing_new = same_brings_nothing n w after refl (λ j. refl) (λ j. refl);
    })),
    dets,
    own_logged,
  )
    where
      logged : (d : Det) → HasOrRecovers w.past d to.0 → d.dest ≡ to → d.rsn ≡ rsn → logs w.past to.0 d ≡ true
      logged d (inl stable) dest place = k.own_logged to.0 d low up (ap (λ (x : Pid). x.0) dest) (omega (arith, place, count)) (k.stores.stable_stored d stable)
      logged d (inr holds) dest place = elim (or_cases (logs w.past to.0 d) (must_recover w.past to.0 d) holds) [ inl has_d ↦ has_d | inr lost ↦ absurd (both_ways (must_recover w.past to.0 d) (up_recovers_nothing n f w k to.0 d low up) lost) ]

      own_logged : (x : ℕ) (d : Det) → x < n → w.rounds.down x ≡ false → d.dest.0 ≡ x → deliveries after.past x ≤ d.rsn → w.stored d ≡ true → logs after.past x d ≡ true
      own_logged x d small up_x dest next stored = or_right _ _ (k.own_logged x d small up_x dest (grind (arith, next)) stored)
