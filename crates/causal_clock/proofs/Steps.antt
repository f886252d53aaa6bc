-- The invariant on counts after one more event.
use Rattle.std.proofs.lemmas.Grind.{common_steps}
use Rattle.std.specs.Prelude.{◌≡◌, ◌≢◌, ℕ, ◌+◌, ◌<◌, ◌≤◌, max, Option, Some, None, List, [], ◌∷◌, ◌++◌, length}
use Rattle.std.proofs.Common.{refl, arith, sym, subst, inl, inr}
use Rattle.std.proofs.lemmas.Bool.Decides.{eqb_tells}
use Rattle.causal_clock.specs.declared.Event.{Event}
use Rattle.causal_clock.specs.Timeline.{lane_length}
use Rattle.causal_clock.specs.Precedence.{FirstReach}
use Rattle.causal_clock.specs.Inside.EventCounts.{LastOf, count_or_none, CountsAreRight}
use Rattle.causal_clock.proofs.Chains.{FirstReachSome, reaches_old, reaches_itself, reaches_into, lane_of-old, lane_of-new, length-more, lane_length-more, lane_place-old, lane_place-new, old_or_new, first_old, first_new_other, first_new_own}

-- the counts of an event, or none where there is no event
some_reach : (es : List Event) (counts : ℕ → ℕ → ℕ) (lanes : ℕ) (k : CountsAreRight es counts lanes) (event : Option ℕ) (lane : ℕ) → ((j : ℕ) → event ≡ Some j → j < length es) → FirstReachSome es event lane (count_or_none counts event lane)
some_reach es counts lanes k None lane inside = grind arith
some_reach es counts lanes k (Some j) lane inside = grind (arith, k.reach j (inside j refl) lane)

-- the count of a lane's last event for its lane is the lane's length
full : (es : List Event) (counts : ℕ → ℕ → ℕ) (lanes : ℕ) (k : CountsAreRight es counts lanes) (event : Option ℕ) (lane : ℕ) → LastOf es event lane → lane_length es lane ≤ count_or_none counts event lane
full es counts lanes k None lane l = omega (arith, l.empty refl)
full es counts lanes k (Some p) lane l = grind (arith, l.inside p refl, k.own p)

module _ (es : List Event) (counts : ℕ → ℕ → ℕ) (lanes : ℕ) (k : CountsAreRight es counts lanes) (e : Event) (in_lane : e.lane < lanes) (sent : (s : ℕ) → e.send ≡ Some s → s < length es) (room : length es < 16777216) (after : ℕ → ℕ → ℕ) (same : (j : ℕ) → j < length es → (lane : ℕ) → after j lane ≡ counts j lane) (own : after (length es) e.lane ≡ lane_length es e.lane + 1) (each : (lane : ℕ) → lane ≢ e.lane → after (length es) lane ≡ max (count_or_none counts (k.last e.lane).0 lane) (count_or_none counts e.send lane)) where
  last : LastOf es (k.last e.lane).0 e.lane
  last = (k.last e.lane).1

  along : (lane : ℕ) → FirstReachSome es (k.last e.lane).0 lane (count_or_none counts (k.last e.lane).0 lane)
  along lane = some_reach es counts lanes k _ lane (λ j is. (last.inside j is).0)

  across : (lane : ℕ) → FirstReachSome es e.send lane (count_or_none counts e.send lane)
  across lane = some_reach es counts lanes k e.send lane sent

  all_of_lane : lane_length es e.lane ≤ count_or_none counts (k.last e.lane).0 e.lane
  all_of_lane = full es counts lanes k _ e.lane last

  new_reach : (lane : ℕ) → FirstReach (es ++ e ∷ []) (length es) lane (after (length es) lane)
  new_reach lane =
      elim (eqb_tells lane e.lane) [
        | inl s ↦ rw (s.1, own) (first_new_own es e _ last _ _ e.lane (along e.lane) (across e.lane) refl all_of_lane)
        | inr s ↦ rw (each lane s.1) (first_new_other es e _ last _ _ lane (along lane) (across lane) s.1)
      ]

  last_in_own : LastOf (es ++ e ∷ []) (Some (length es)) e.lane
  last_in_own = record {
    reached = λ i lt of_lane. (length es, refl, grind (arith, old_or_new es e i lt, lane_of-old, last.reached, last.inside, reaches_into, reaches_itself));
    inside = λ p is. grind (arith, common_steps, length-more, lane_of-new, lane_place-new, lane_length-more);
    empty = λ is. cc;
  }

  last_in_other : (lane : ℕ) (event : Option ℕ) → e.lane ≢ lane → LastOf es event lane → LastOf (es ++ e ∷ []) event lane
  last_in_other lane event other l = record {
    reached = λ i lt of_lane. grind (arith, old_or_new es e i lt, lane_of-old, reaches_old, lane_of-new);
    inside = λ p is. grind (arith, length-more es e, lane_of-old es e p, lane_place-old es e p, l.inside p is, lane_length-more es e lane);
    empty = λ is. grind (arith, l.empty is, lane_length-more es e lane);
  }

  -- the counts hold after a new event, whose counts are the greater of its lane's last event's and its send's
  pub keeps_event : CountsAreRight (es ++ e ∷ []) after lanes
  keeps_event = record {
    few = omega (arith, length-more es e);
    reach = λ j lt lane. elim (old_or_new es e j lt) [
      | inl old ↦ rw (same j old lane) (first_old es e j lane _ old (k.reach j old lane))
      | inr new ↦ rw new (new_reach lane)
    ];
    own = λ j lt. grind (arith, old_or_new es e j lt, lane_of-old, lane_place-old, lane_of-new, lane_place-new);
    last = λ lane. elim (eqb_tells lane e.lane) [
      | inl s ↦ (Some (length es), subst (LastOf (es ++ e ∷ []) (Some (length es))) (sym s.1) last_in_own)
      | inr s ↦ ((k.last lane).0, last_in_other lane _ (λ is. s.1 (sym is)) (k.last lane).1)
    ];
    lanes = λ i lt. grind (arith, old_or_new, lane_of-old, lane_of-new);
  }
