use Rattle.std.proofs.Common.{◌≡◌, ◌++◌, flat_map}
use Rattle.causal_holders.specs.Members.{ascending}
use Rattle.causal_picture.specs.Drawings.{up_at, ups_of}
use Rattle.causal_picture.proofs.drawing.add_ups.Given as goal

-- the parts so far and the lines of the remaining processes make up the whole list
abbrev pub invariant-loop-process : goal.invariant-loop-process
invariant-loop-process l =
    l.fn.parts.items ++ ups_of l.trace.recording l.grid l.fn.is_late l.fn.range.first l.marks
    ≡ l.parts.items ++ flat_map (up_at l.trace.recording l.fn.is_late l.fn.range.first l.marks) (ascending l.process-iterator)
