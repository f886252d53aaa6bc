use Rattle.std.proofs.Common.{◌≡◌, ◌++◌, length}
use Rattle.causal_line.specs.Lines.{lines}
use Rattle.causal_merge.specs.Inside.RecorderChunks.{AreParsedLines, lines_of}
use Rattle.causal_merge.proofs.recorder_chunk.parse_recordings.Given as goal

abbrev pub invariant-loop-line : goal.invariant-loop-line
invariant-loop-line l = (lines l.bytes ≡ lines_of l.parsed.items ++ lines l.rest) × AreParsedLines l.parsed.items

abbrev pub decreases-loop-line : goal.decreases-loop-line
decreases-loop-line l = length l.rest
