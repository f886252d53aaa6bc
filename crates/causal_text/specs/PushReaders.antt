-- A reader of a text in parts that the caller passes.
use Rattle.std.specs.Prelude.{◌≡◌, ℕ, List}
use Rattle.causal_text.specs.declared.stream.State.TheVariants as state
use Rattle.causal_text.specs.Pieces.{PieceState}
use Rattle.causal_text.specs.Streams.{HasReadWithin}

-- a reader as a contract sees it: its limit on entries, and the state of its reader of pieces
pub record PushReaderState : Type 0 where
  pub most : ℕ
  pub pieces : PieceState

-- a reader with this limit on entries has read these bytes
abbrev pub HasReceived : ℕ → PushReaderState → List ℕ → Type 0
HasReceived most reader bytes = (reader.most ≡ most) × HasReadWithin most (state.Reading reader.pieces) bytes
