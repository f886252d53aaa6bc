use Rattle.std.proofs.Common.{◌≡◌, ◌++◌, ℕ, List, Ok, length}
use Rattle.std.specs.Vec.Iter.{into_iter_items, into_iter_len}
use Rattle.causal_merge.specs.RecordingReaders.{IsReadBy}
use Rattle.causal_merge.specs.Inside.RecorderChunks.{AreParsedLines, lines_of}
use Rattle.causal_merge.proofs.recording_reader.RecordingReader.feed_parsed.Given as goal

abbrev pub invariant-loop-line : goal.invariant-loop-line
invariant-loop-line l =
    (done : List (List ℕ)) × (into_iter_len l.line-iterator ≡ length (into_iter_items l.line-iterator)) × AreParsedLines (into_iter_items l.line-iterator)
    × (lines_of (into_iter_items l.initial.line-iterator) ≡ done ++ lines_of (into_iter_items l.line-iterator)) × IsReadBy l.fn.self done (Ok l.reader)
