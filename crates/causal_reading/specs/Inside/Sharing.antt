-- The chunks of a piece of a text that several workers parse.
use Rattle.std.specs.Prelude.{ℕ, List, [], ◌∷◌, ◌++◌}
use Rattle.causal_reading.specs.declared.shared_chunk.SharedChunk.{SharedChunk}

-- the bytes of the chunks
abbrev pub bytes_of : List SharedChunk → List ℕ
bytes_of [] = []
bytes_of (c ∷ cs) = c.bytes.now ++ bytes_of cs
