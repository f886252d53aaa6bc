-- The outcome of one more piece of a text.
use Rattle.std.specs.Prelude.{ℕ, List, ◌++◌}
use Rattle.causal_text.specs.PushReaders.{HasReceived}
use Rattle.causal_workers.specs.Streaming.{HasNoEarlyBreach, IsEarlyBreach}
use Rattle.causal_workers.specs.declared.looks.Looks.{Looks}
use Rattle.causal_workers.specs.declared.streaming.PieceOutcome.{PieceOutcome}
use Rattle.causal_workers.specs.declared.streaming.PieceOutcome.TheVariants.{More, Breach}

-- after these bytes and the piece: both are read and all audits at checkpoints accepted, or one did not, however the
-- text continues
abbrev pub IsPieceOutcome : Looks → ℕ → List ℕ → List ℕ → ℕ → PieceOutcome → Type 0
IsPieceOutcome looks most b piece f (More next) = HasReceived most next (b ++ piece) × HasNoEarlyBreach most (b ++ piece) f
IsPieceOutcome looks most b piece f (Breach judged) = (more : List ℕ) → IsEarlyBreach looks most ((b ++ piece) ++ more) f judged
