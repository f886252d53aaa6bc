use Rattle.causal_audit.proofs.Common.{List, ◌++◌, take, Det}
use Rattle.causal_trace.specs.Numbers.{delivered_dets}
use Rattle.causal_audit.specs.Inside.Index.Lists.{AreNumbersOf}
use Rattle.causal_audit.proofs.index.mentions.note_numbers.Given as goal

-- the numbers of the determinants so far
abbrev pub invariant-loop-det : goal.invariant-loop-det
invariant-loop-det l = (before : List Det) → AreNumbersOf l.among (delivered_dets l.trace.recording.past) before l.fn.numbers.items → AreNumbersOf l.among (delivered_dets l.trace.recording.past) (before ++ take l.det-index l.dets) l.numbers.items
