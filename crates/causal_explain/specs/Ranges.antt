-- The bounds f for which a run is safe.
use Rattle.std.specs.Prelude.{ℕ, ◌<◌, ◌≤◌, ◌↔◌, length, Option, Some, None}
use Rattle.causal_name.specs.Sets.{count_below}
use Rattle.causal_trace.specs.Past.{instant, is_down}
use Rattle.causal_trace.specs.Rows.{Recording}
use Rattle.causal_trace.specs.Judgement.{HasOrphan, IsSafeTrace}
use Rattle.causal_explain.specs.declared.range.SafeRange.{SafeRange}

-- at some instant more than f processes are down
abbrev pub HasExcessInstant : Recording → ℕ → Type 0
HasExcessInstant r f = (t : ℕ) × (t ≤ length r.past) × (f < count_below r.processes (is_down (instant r.past t)))

-- at some instant a delivery has an orphan for f
abbrev pub HasOrphanInstant : Recording → ℕ → Type 0
HasOrphanInstant r f = (t : ℕ) × (k : ℕ) × (t ≤ length r.past) × HasOrphan r.processes f (instant r.past t) k

-- f is less than the given number; true if there is none
abbrev pub IsBelow : Option ℕ → ℕ → Type 0
IsBelow None f = Unit {0}
IsBelow (Some end) f = f < end

-- f is at least the given number; false if there is none
abbrev pub IsFrom : Option ℕ → ℕ → Type 0
IsFrom None f = ⊥
IsFrom (Some end) f = end ≤ f

-- the run is safe for exactly these bounds; for smaller ones more than f processes are down at some instant, and from
-- the end on a delivery has an orphan
pub record IsSafeRange (r : Recording) (range : SafeRange) : Type 0 where
  pub safe : (f : ℕ) → IsSafeTrace r f ↔ ((range.from ≤ f) × IsBelow range.below f)
  pub excess : (f : ℕ) → f < range.from → HasExcessInstant r f
  pub orphan : (f : ℕ) → IsFrom range.below f → HasOrphanInstant r f
