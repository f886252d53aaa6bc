-- The first chunks of a piece, read by a reader.
use Rattle.std.specs.Prelude.{List, take}
use Rattle.causal_text.specs.PushReaders.{PushReaderState}
use Rattle.causal_reading.specs.declared.shared_chunk.SharedChunk.{SharedChunk}
use Rattle.causal_reading.specs.declared.shared_chunks.PartlyRead.{PartlyRead}
use Rattle.causal_reading.specs.Inside.Feeding.{IsFedBy}
use Rattle.causal_reading.specs.Inside.Sharing.{bytes_of}

-- the reader has read the first of these chunks, as many as the result says, or refused one of them
abbrev pub IsReadFrom : PushReaderState → List SharedChunk → PartlyRead → Type 0
IsReadFrom reader chunks part = IsFedBy reader (bytes_of (take part.read chunks)) part.fed
