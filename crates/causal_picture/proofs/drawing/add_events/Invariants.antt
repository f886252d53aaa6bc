use Rattle.std.proofs.Common.{◌≡◌, ◌++◌, drop}
use Rattle.causal_picture.specs.Drawings.{event_parts}
use Rattle.causal_picture.proofs.drawing.add_events.Given as goal

-- the parts so far and the events of the remaining marks make up the whole list
abbrev pub invariant-loop-mark : goal.invariant-loop-mark
invariant-loop-mark l =
    l.fn.parts.items ++ event_parts l.trace.recording l.grid l.marks l.marks
    ≡ l.parts.items ++ event_parts l.trace.recording l.grid l.marks (drop l.mark-index l.marks)
