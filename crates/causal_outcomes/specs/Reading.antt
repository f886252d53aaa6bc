-- How many bytes are read from a reader.
use Rattle.std.specs.Prelude.{ℕ, ◌≤◌, List, length, Option}
use Rattle.std.specs.Io.KnownBytes.{Consumes}

-- the reader advances by at most this number of bytes
abbrev pub ReadsAtMost : ℕ → Option (List ℕ) → Option (List ℕ) → Type 0
ReadsAtMost most old new = (given : List ℕ) × Consumes old new given × (length given ≤ most)
