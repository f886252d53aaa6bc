use Rattle.std.proofs.Common.{◌≡◌, ◌++◌, drop, flat_map, string_bytes}
use Rattle.causal_answers.specs.Bounds.{bounds_line}
use Rattle.causal_answers.proofs.bounds.push_bounds_lines.Given as goal

abbrev pub invariant-loop-range : goal.invariant-loop-range
invariant-loop-range l = string_bytes l.fn.out ++ flat_map bounds_line l.ranges ≡ string_bytes l.out ++ flat_map bounds_line (drop l.range-index l.ranges)
