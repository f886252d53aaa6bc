use Rattle.std.proofs.Common.{◌≡◌, ◌++◌, ℕ, List, Ok, length}
use Rattle.causal_line.specs.Lines.{lines}
use Rattle.causal_merge.specs.RecordingReaders.{IsReadBy}
use Rattle.causal_merge.proofs.recording_reader.RecordingReader.feed.Given as goal

abbrev pub invariant-loop-line : goal.invariant-loop-line
invariant-loop-line l = (done : List (List ℕ)) × (lines l.text ≡ done ++ lines l.left) × IsReadBy l.fn.self done (Ok l.reader)

abbrev pub decreases-loop-line : goal.decreases-loop-line
decreases-loop-line l = length l.left
