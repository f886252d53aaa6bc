-- The parsed lines of a chunk of recorder files.
use Rattle.std.specs.Prelude.{ℕ, ◌<◌, List, [], ◌∷◌, length, map, IfOk}
use Rattle.causal_line.specs.Returns.{Returns}
use Rattle.causal_line.specs.Values.{without_line_feed}
use Rattle.causal_merge.specs.declared.recorder_chunk.RecorderChunkLine.{RecorderChunkLine}
use Rattle.causal_merge.specs.Reading.{parse_bytes}
use Rattle.causal_merge.specs.ParsedFiles.{IsSoundLine}

-- the line is not empty, and its result is its content or its error, or `NoMemory`
abbrev pub IsParsedLine : RecorderChunkLine → Type 0
IsParsedLine line = (0 < length line.bytes.now) × Returns line.content (parse_bytes (without_line_feed line.bytes.now)) × IfOk line.content IsSoundLine

-- each line is so parsed
abbrev pub AreParsedLines : List RecorderChunkLine → Type 0
AreParsedLines [] = Unit {0}
AreParsedLines (l ∷ ls) = IsParsedLine l × AreParsedLines ls

-- the lines
abbrev pub lines_of : List RecorderChunkLine → List (List ℕ)
lines_of chunk_lines = map (λ l. l.bytes.now) chunk_lines
