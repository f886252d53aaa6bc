use Rattle.std.proofs.Common.{◌≡◌, ◌-◌, ◌++◌}
use Rattle.std.specs.List.{filter_map, range_with_len}
use Rattle.causal_picture.specs.Marks.{mark_at, marks_of}
use Rattle.causal_picture.proofs.marks.marks_of.Given as goal

-- the marks so far and those of the remaining positions make up the whole list
abbrev pub invariant-loop-position : goal.invariant-loop-position
invariant-loop-position l =
    l.marks.items ++ filter_map (mark_at l.trace.recording.past) (range_with_len l.position (l.end - l.position)) ≡ marks_of l.trace.recording.past l.fn.range
