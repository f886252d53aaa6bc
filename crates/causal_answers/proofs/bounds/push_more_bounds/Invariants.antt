use Rattle.std.proofs.Common.{◌≡◌, ◌++◌, drop, flat_map, string_bytes}
use Rattle.causal_answers.specs.Bounds.{next_bounds}
use Rattle.causal_answers.proofs.bounds.push_more_bounds.Given as goal

abbrev pub invariant-loop-range : goal.invariant-loop-range
invariant-loop-range l = string_bytes l.fn.out ++ flat_map next_bounds l.ranges ≡ string_bytes l.out ++ flat_map next_bounds (drop l.range-index l.ranges)
