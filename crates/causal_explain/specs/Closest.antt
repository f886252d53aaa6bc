-- The delivery of a run closest to failing, as the bound f grows.
use Rattle.std.specs.Prelude.{ℕ, ◌<◌, ◌≤◌, ◌↔◌, length, Some}
use Rattle.causal_trace.specs.Past.{instant, deliveries_in}
use Rattle.causal_trace.specs.Rows.{Recording}
use Rattle.causal_trace.specs.Judgement.{HasOrphan, IsSafeTrace}
use Rattle.causal_audit.specs.declared.breach.Breach.{Breach}
use Rattle.causal_audit.specs.Breaches.{EarliestBreach}
use Rattle.causal_explain.specs.declared.closest.Closest.{Closest}
use Rattle.causal_explain.specs.declared.closest.Closest.TheVariants.{Never, At}

-- for f no delivery has an orphan at any instant of the run
abbrev pub HasNoOrphan : Recording → ℕ → Type 0
HasNoOrphan r f = (k t : ℕ) → t ≤ length r.past → HasOrphan r.processes f (instant r.past t) k → ⊥

-- this is the least bound for which a delivery has an orphan, and the earliest breach of all deliveries for it
pub record IsClosestFailure (r : Recording) (faults : ℕ) (b : Breach) : Type 0 where
  pub least : EarliestBreach r faults 0 (deliveries_in r.past) (Some b)
  pub fewer : (f : ℕ) → f < faults → HasNoOrphan r f

-- the value is true of the run: for no f has a delivery an orphan, or this is the first failure
abbrev pub IsClosest : Recording → Closest → Type 0
IsClosest r Never = (f : ℕ) → HasNoOrphan r f
IsClosest r (At faults breach) = IsClosestFailure r faults breach

-- for which bounds from f on the run is safe: for all, or for exactly those below the closest failure's
abbrev pub IsSafeBelowClosest : Recording → ℕ → Closest → Type 0
IsSafeBelowClosest r f Never = (g : ℕ) → f ≤ g → IsSafeTrace r g
IsSafeBelowClosest r f (At faults breach) = (f < faults) × ((g : ℕ) → f ≤ g → IsSafeTrace r g ↔ (g < faults))
