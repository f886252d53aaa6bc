use Rattle.std.proofs.Common.{◌≡◌, ◌++◌, length}
use Rattle.causal_text.specs.Inside.Chunks.{AreParsed, bytes_of}
use Rattle.causal_text.proofs.parsed_chunk.parse_chunk.Given as goal

abbrev pub invariant-loop-line : goal.invariant-loop-line
invariant-loop-line l = (l.bytes ≡ bytes_of l.lines.items ++ l.rest) × AreParsed l.lines.items

abbrev pub decreases-loop-line : goal.decreases-loop-line
decreases-loop-line l = length l.rest
