use Rattle.std.proofs.Common.{◌≡◌, ◌++◌, length}
use Rattle.causal_reading.specs.Inside.Sharing.{bytes_of}
use Rattle.causal_reading.proofs.shared_chunks.SharedChunks.of.Given as goal

abbrev pub invariant-loop-left : goal.invariant-loop-left
invariant-loop-left l = bytes_of l.chunks.items ++ l.left ≡ l.piece

abbrev pub decreases-loop-left : goal.decreases-loop-left
decreases-loop-left l = length l.left
