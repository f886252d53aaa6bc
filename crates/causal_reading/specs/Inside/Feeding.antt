-- More bytes of a text, read by a reader, and the buffer that they are read into.
use Rattle.std.specs.Prelude.{ℕ, ◌<◌, ◌≤◌, List, ◌++◌, Result, Ok, Err}
use Rattle.causal_line.specs.declared.text_refusal.TextRefusal.{TextRefusal}
use Rattle.causal_text.specs.FaultContexts.{IsTrueRefusalAlways}
use Rattle.causal_text.specs.PushReaders.{PushReaderState, HasReceived}
use Rattle.causal_reading.specs.Reads.{shared_read}

-- the result of reading more bytes: a reader that has received them too, or a true refusal, whatever follows
abbrev pub IsFedBy : PushReaderState → List ℕ → Result PushReaderState TextRefusal → Type 0
IsFedBy reader bytes (Ok next) = (most : ℕ) (b : List ℕ) → HasReceived most reader b → HasReceived most next (b ++ bytes)
IsFedBy reader bytes (Err refusal) = (most : ℕ) (b : List ℕ) → HasReceived most reader b → IsTrueRefusalAlways most (b ++ bytes) refusal

-- a buffer of this size is not empty, and no longer than what the workers take at a time
abbrev pub IsBufferSize : ℕ → ℕ → Type 0
IsBufferSize workers size = (0 < size) × (size ≤ shared_read workers)
