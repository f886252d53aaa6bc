-- The parsed lines of a chunk of a text.
use Rattle.std.specs.Prelude.{ℕ, List, [], ◌∷◌, ◌++◌}
use Rattle.causal_line.specs.Lines.{IsComplete}
use Rattle.causal_line.specs.Returns.{Returns}
use Rattle.causal_line.specs.Values.{parse_line}
use Rattle.causal_text.specs.declared.parsed_chunk.ChunkLine.{ChunkLine}

-- the line is complete, and its result is its parsed form or its error, or `NoMemory`
abbrev pub IsParsed : ChunkLine → Type 0
IsParsed line = IsComplete line.bytes.now × Returns line.parsed (parse_line line.bytes.now)

-- each line is so parsed
abbrev pub AreParsed : List ChunkLine → Type 0
AreParsed [] = Unit {0}
AreParsed (l ∷ ls) = IsParsed l × AreParsed ls

-- the bytes of the lines
abbrev pub bytes_of : List ChunkLine → List ℕ
bytes_of [] = []
bytes_of (l ∷ ls) = l.bytes.now ++ bytes_of ls
