use Rattle.std.proofs.Common.{◌≡◌, ◌++◌, drop}
use Rattle.causal_picture.specs.Drawings.{chain_marks}
use Rattle.causal_picture.proofs.drawing.chain_marks.Given as goal

-- the marks so far and those of the remaining positions make up the whole list
abbrev pub invariant-loop-position : goal.invariant-loop-position
invariant-loop-position l =
    l.marks.items ++ chain_marks l.trace.recording.past l.grid (drop l.position-index l.chain) ≡ chain_marks l.trace.recording.past l.grid l.chain
