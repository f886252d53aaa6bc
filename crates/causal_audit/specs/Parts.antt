-- The followed deliveries of a run, parts of them, and their earliest breach.
use Rattle.std.specs.Prelude.{◌≡◌, ℕ, ◌-◌, ◌≤◌, Contains, List, drop, length, take, Option, MatchOption}
use Rattle.causal_trace.specs.Past.{instant, deliveries_in}
use Rattle.causal_trace.specs.Rows.{Recording}
use Rattle.causal_trace.specs.Judgement.{HasOrphan}
use Rattle.causal_audit.specs.declared.breach.Breach.{Breach}
use Rattle.causal_audit.specs.Breaches.{IsFirstBreach, EarliestBreachBy}

-- b is the earliest breach of the deliveries at these positions: no other has an orphan earlier, nor at that instant at
-- a lower position
pub record IsEarliestAmong (r : Recording) (f : ℕ) (positions : List ℕ) (b : Breach) : Type 0 where
  pub among : Contains positions b.delivery
  pub first : IsFirstBreach r f b.delivery b
  pub least : (k t : ℕ) → Contains positions k → t ≤ length r.past → HasOrphan r.processes f (instant r.past t) k → (b.instant ≤ t) × (b.instant ≡ t → b.delivery ≤ k)

-- the earliest breach of the deliveries at these positions, if it comes by the instant `end`; None if none of them has
-- an orphan by then
abbrev pub EarliestAmongBy : Recording → ℕ → ℕ → List ℕ → Option Breach → Type 0
EarliestAmongBy r f end positions found = MatchOption found
    ((k t : ℕ) → Contains positions k → t ≤ end → HasOrphan r.processes f (instant r.past t) k → ⊥)
    (λ b. (b.instant ≤ end) × IsEarliestAmong r f positions b)

-- the deliveries that are followed: their positions, and for how many entries each may be open; with the run, f, and the
-- instant up to which they are followed
pub record FollowedDeliveries : Type 0 where
  pub run : Recording
  pub f : ℕ
  pub end : ℕ
  pub positions : List ℕ
  pub open_lengths : List ℕ

-- the earliest breach of the followed deliveries, if it comes by their last instant; None if none has an orphan by then
abbrev pub EarliestOf : FollowedDeliveries → Option Breach → Type 0
EarliestOf followed found = EarliestAmongBy followed.run followed.f followed.end followed.positions found

-- the part of the followed deliveries from index `from` to below index `to`
abbrev pub part_of : FollowedDeliveries → ℕ → ℕ → FollowedDeliveries
part_of followed from to = record {
  run = followed.run;
  f = followed.f;
  end = followed.end;
  positions = take (to - from) (drop from followed.positions);
  open_lengths = take (to - from) (drop from followed.open_lengths);
}

-- the followed deliveries suffice: their earliest breach is that of all deliveries of the run for f up to the instant
-- `end`
abbrev pub AreSufficient : Recording → ℕ → ℕ → FollowedDeliveries → Type 0
AreSufficient r f end followed = (found : Option Breach) → EarliestOf followed found → EarliestBreachBy r f end 0 (deliveries_in r.past) found
