use Rattle.std.proofs.Common.{◌≡◌, ◌++◌, map}
use Rattle.causal_holders.specs.Members.{ascending}
use Rattle.causal_picture.specs.Drawings.{row_part, rows_of_shown}
use Rattle.causal_picture.proofs.drawing.add_rows.Given as goal

-- the parts so far and the rows of the remaining processes make up the whole list
abbrev pub invariant-loop-process : goal.invariant-loop-process
invariant-loop-process l =
    l.fn.parts.items ++ rows_of_shown l.grid l.fn.crash ≡ l.parts.items ++ map (row_part l.fn.crash) (ascending l.process-iterator)
