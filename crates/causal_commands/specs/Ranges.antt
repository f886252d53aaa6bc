-- The bounds f for which a run is safe, exceeded, or has an orphan.
use Rattle.std.specs.Prelude.{ℕ, ◌-◌, nat_lt, if◌then◌else◌, List, [], ◌∷◌, ◌++◌, Option, Some, None}
use Rattle.causal_explain.specs.declared.range.SafeRange.{SafeRange}
use Rattle.causal_answers.specs.declared.bounds.Bounds.{Bounds}
use Rattle.causal_answers.specs.declared.bounds.Bounds.TheVariants.{Exceeded, AcceptFrom, Accept, Orphan}

-- the bounds below `from`, if there are any
abbrev pub exceeded_below : ℕ → List Bounds
exceeded_below from = if nat_lt 0 from then Exceeded (from - 1) ∷ [] else []

-- the bounds from `from` up to, but not including, `end`, if there are any
abbrev pub accept_below : ℕ → ℕ → List Bounds
accept_below from end = if nat_lt from end then Accept from (end - 1) ∷ [] else []

-- the bounds from `from` on: safe up to the end, if there is one, and with an orphan from it on
abbrev pub bounds_from : ℕ → Option ℕ → List Bounds
bounds_from from None = AcceptFrom from ∷ []
bounds_from from (Some end) = accept_below from end ++ Orphan end ∷ []

-- the ranges that are not empty, ascending by f
abbrev pub ranges_of : SafeRange → List Bounds
ranges_of range = exceeded_below range.from ++ bounds_from range.from range.below
