use Rattle.std.proofs.Common.{◌≡◌, ◌++◌, ℕ, List, Ok, length}
use Rattle.causal_line.specs.Lines.{lines}
use Rattle.causal_merge.specs.RecordingReaders.{IsReadBy}
use Rattle.causal_reading.proofs.merging.read_all_by.Given as goal

abbrev pub invariant-loop-left : goal.invariant-loop-left
invariant-loop-left g l = (done : List (List ℕ)) × (lines l.text ≡ done ++ lines l.left) × IsReadBy l.fn.before done (Ok l.reader)

abbrev pub decreases-loop-left : goal.decreases-loop-left
decreases-loop-left g l = length l.left
