-- The invariant of the bisection for the closest failure.
use Rattle.std.specs.Prelude.{ℕ, ◌<◌, ◌≤◌, Option, Some, None}
use Rattle.std.specs.FinSet.{len}
use Rattle.causal_trace.specs.Past.{deliveries_in}
use Rattle.causal_trace.specs.Rows.{Recording}
use Rattle.causal_audit.specs.declared.breach.Breach.{Breach}
use Rattle.causal_audit.specs.Breaches.{EarliestBreach}
use Rattle.causal_explain.specs.Closest.{HasNoOrphan}

-- the breach is the earliest of all deliveries for a bound equal to the size of its crash set
pub record FailsByItself (r : Recording) (b : Breach) : Type 0 where
  pub few : len b.crash < 65536
  pub least : EarliestBreach r (len b.crash) 0 (deliveries_in r.past) (Some b)

-- what a search for f finds: no delivery has an orphan; or a breach that is the earliest for the size of its crash set,
-- at most f
abbrev pub IsFoundBreach : Recording → ℕ → Option Breach → Type 0
IsFoundBreach r f None = HasNoOrphan r f
IsFoundBreach r f (Some b) = (len b.crash ≤ f) × FailsByItself r b
