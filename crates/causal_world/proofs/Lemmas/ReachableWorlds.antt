-- The opening has the invariant, and so all worlds that processes reach are safe.
use Rattle.std.proofs.Common.{ℕ, suc, ◌≡◌, inl, inr, ◌&&◌, nat_lt, List, [], Some, sym, ap, subst, ◌∙◌, arith}
use Rattle.std.specs.Prelude.{◌==◌}
use Rattle.std.proofs.lemmas.Bool.{both_ways, or_cases, and_parts}
use Rattle.causal_name.specs.declared.Det.{Det}
use Rattle.causal_trace.specs.declared.entry.Entry.{Entry}
use Rattle.causal_trace.specs.Past.{is_down, logs, is_stable}
use Rattle.causal_steps.specs.Recovery.{must_recover}
use Rattle.causal_steps.specs.Reachable.{IsReachableState, initial}
use Rattle.causal_steps.proofs.Lemmas.Reachable.{reachable_safe}
use Rattle.causal_rounds.specs.Rounds.{Round, RoundInvariant}
use Rattle.causal_rounds.specs.Gathered.{Carrier, DetInvariant}
use Rattle.causal_rounds.proofs.Lemmas.RoundSteps.{none_some}
use Rattle.causal_world.specs.World.{World, if_in_transit, if_carries, volatile_of, det_state_of}
use Rattle.causal_world.specs.Invariant.{WorldInvariant}
use Rattle.causal_world.specs.Reachable.{IsInitialWorld, IsReachableWorld, opening, next_world, WorldsAreSafe, WorldsShareNoSlot}
use Rattle.causal_world.proofs.Worlds.{world_steps_preserve}

module _ (n f : ℕ) (w : World) (o : IsInitialWorld n w) where
  no_round : {X : Type 0} (s : ℕ) (r : Round) → w.rounds.rounds s ≡ Some r → X
  no_round s r at = absurd (none_some r (sym (o.no_rounds s) ∙ at))

  no_carrier : {X : Type 0} (d : Det) (i : ℕ) (t : Carrier) → if_carries d (w.packets i) ≡ Some t → X
  no_carrier d i t at = absurd (none_some t (sym (ap (if_carries d) (o.no_packets i)) ∙ at))

  past_is : {X : Type 0} (g : List Entry → X) → g w.past ≡ g []
  past_is g = ap g o.past

  rounds_opening : RoundInvariant w.rounds
  rounds_opening = record {
    gathering_are_down = λ s r at. no_round s r at;
    own_view = λ s r at. no_round s r at;
    views_told = λ s q r at. no_round s r at;
    floors_told = λ y q. let floor = o.floors y q in omega (arith, floor);
    one_way = λ s q r x at there replied_q. no_round s r at;
    same_lane = λ s q r at replied_q was. no_round s r at;
    still_down = λ s q r at replied_q quiet. no_round s r at;
    answers_are_replies = λ s q r at was. no_round s r at;
    refuses = λ s y z r at was up. no_round s r at;
    ordered = λ s z y r x at there replied_q was. no_round s r at;
  }

  det_opening : (d : Det) → DetInvariant (det_state_of n w d)
  det_opening d = record {
    logs_up = λ p h. absurd (elim (or_cases (nat_lt p n && logs w.past p d) (p == n && w.stored d) h) [
      | inl logs_d ↦ both_ways (logs w.past p d) (past_is (λ t. logs t p d)) (and_parts (nat_lt p n) (logs w.past p d) logs_d).1
      | inr stored ↦ both_ways (w.stored d) (o.nothing_stored d) (and_parts (p == n) (w.stored d) stored).1
    ]);
    recovering_are_down = λ p h. absurd (both_ways (must_recover w.past p d) (past_is (λ t. must_recover t p d)) (and_parts (nat_lt p n) (must_recover w.past p d) h).1);
    lanes = λ i t at. no_carrier d i t at;
    sent = λ i t at up lane. no_carrier d i t at;
    gathers = λ s q r at fitting must unstable replied_q has_d. no_round s r at;
  }

  opening_invariant : WorldInvariant n f w
  opening_invariant = record {
    reached = subst (λ t. IsReachableState n f t (volatile_of n w)) (sym o.past) (initial (volatile_of n w) (record { no_holders = o.no_holders; no_stable = o.no_stable; no_parcels = λ i j. ap (if_in_transit (suc n) w.rounds (w.landed i)) (o.no_packets i) }));
    rounds = rounds_opening;
    dets = det_opening;
    absent = record { down = o.absent; no_round = λ p high. o.no_rounds p; replied = λ s p r at high. no_round s r at };
    down = λ p low. o.up p low ∙ sym (past_is (λ t. is_down t p));
    lanes = λ i p at. absurd (none_some p (sym (o.no_packets i) ∙ at));
    gathered_from = λ s r d at h. no_round s r at;
    storage = record { up = o.storage; no_round = o.no_rounds n; first_lane = o.lanes n };
    stores = record {
      stored_from = λ d h. absurd (both_ways (w.stored d) (o.nothing_stored d) h);
      landed_stored = λ i h. absurd (both_ways (w.landed i) (o.nothing_landed i) h);
      stable_stored = λ d h. absurd (both_ways (is_stable w.past d) (past_is (λ t. is_stable t d)) h);
    };
    reads = record { last = λ s r q at done low other. no_round s r at; own_gathered = λ s r d at done stored dest. no_round s r at };
    own_logged = λ p d low up dest next stored. absurd (both_ways (w.stored d) (o.nothing_stored d) stored);
  }

pub world_invariant : (n f : ℕ) (w : World) → IsReachableWorld n f w → WorldInvariant n f w
world_invariant n f w (opening v o) = opening_invariant n f w o
world_invariant n f w (next_world v x before step) = world_steps_preserve n f v w step (world_invariant n f v before)

pub worlds_are_safe : WorldsAreSafe
worlds_are_safe n f w h = (reachable_safe n f w.past (volatile_of n w) (world_invariant n f w h).reached).safe

pub worlds_share_no_slot : WorldsShareNoSlot
worlds_share_no_slot n f w h = (reachable_safe n f w.past (volatile_of n w) (world_invariant n f w h).reached).facts.no_slot_shared
