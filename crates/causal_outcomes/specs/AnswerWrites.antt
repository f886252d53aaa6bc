-- What a command appends to its output for each ending.
use Rattle.std.specs.Prelude.{ℕ, ◌<◌, List, length, take, Option}
use Rattle.std.specs.Io.KnownBytes.{Appends, Keeps}
use Rattle.causal_outcomes.specs.declared.ended.Ended.{Ended}
use Rattle.causal_outcomes.specs.declared.ended.Ended.TheVariants.{ReadFault, WriteFault, NoMemory, NoWorker}

-- the writer's contents before and after, by the ending: the line that answers is appended; after a write fault a
-- proper prefix of it; else nothing. `Answers` relates each ending to the lines that answer
abbrev pub WritesAnswer : (Ended → List ℕ → Type 0) → Ended → Option (List ℕ) → Option (List ℕ) → Type 0
WritesAnswer Answers ReadFault old new = Keeps old new
WritesAnswer Answers NoMemory old new = Keeps old new
WritesAnswer Answers NoWorker old new = Keeps old new
WritesAnswer Answers WriteFault old new =
    (ended : Ended) × (line : List ℕ) × (n : ℕ) × Answers ended line × (n < length line) × Appends old new (take n line)
WritesAnswer Answers ended old new = (line : List ℕ) × Answers ended line × Appends old new line
