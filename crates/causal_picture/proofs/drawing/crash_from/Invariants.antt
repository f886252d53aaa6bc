use Rattle.std.proofs.Common.{◌≡◌, drop}
use Rattle.causal_picture.specs.Drawings.{crash_from}
use Rattle.causal_picture.proofs.drawing.crash_from.Given as goal

-- the line ends where it ends by the remaining marks
abbrev pub invariant-loop-mark : goal.invariant-loop-mark
invariant-loop-mark l = crash_from l.marks l.fn.process l.fn.from ≡ crash_from (drop l.mark-index l.marks) l.fn.process l.fn.from
