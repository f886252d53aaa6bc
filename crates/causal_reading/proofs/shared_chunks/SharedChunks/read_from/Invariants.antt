use Rattle.std.proofs.Common.{◌-◌, Ok, length, take}
use Rattle.causal_text.specs.PushReaders.{PushReaderState}
use Rattle.causal_reading.specs.Inside.Feeding.{IsFedBy}
use Rattle.causal_reading.specs.Inside.Sharing.{bytes_of}
use Rattle.causal_reading.proofs.shared_chunks.SharedChunks.read_from.Given as goal

abbrev pub invariant-loop-chunk : goal.invariant-loop-chunk
invariant-loop-chunk l =
    (first : PushReaderState) → IsFedBy first (bytes_of (take l.from l.self.chunks.items)) (Ok l.fn.reader) → IsFedBy first (bytes_of (take l.read l.self.chunks.items)) (Ok l.next)

abbrev pub decreases-loop-chunk : goal.decreases-loop-chunk
decreases-loop-chunk l = length l.self.chunks.items - l.read
