-- Reading a text from a byte source: the reader's state, its pieces and its errors.
use Rattle.std.specs.Prelude.{◌≡◌, ◌≢◌, ◌<◌, ◌≤◌, ℕ, List, [], ◌∷◌, ◌++◌, length, Option, Result, Ok, Err, IfOk, IfErr}
use Rattle.std.specs.Io.KnownBytes.{Consumes, IsAtEnd}
use Rattle.causal_trace.specs.Limits.{default_entries}
use Rattle.causal_trace.specs.Rows.{Recording}
use Rattle.causal_trace.specs.State.{TraceState}
use Rattle.causal_line.specs.declared.kind.TextKind.TheVariants.{NoMemory}
use Rattle.causal_line.specs.declared.kind.TextFault.{TextFault}
use Rattle.causal_text.specs.declared.stream.ReaderFault.{ReaderFault}
use Rattle.causal_text.specs.declared.stream.ReaderFault.TheVariants as fault
use Rattle.causal_text.specs.declared.stream.State.{State}
use Rattle.causal_text.specs.declared.stream.State.TheVariants as state
use Rattle.causal_text.specs.declared.stream.Progress.{Progress}
use Rattle.causal_text.specs.declared.stream.Progress.TheVariants as progress
use Rattle.causal_lines.specs.ReadPositions.{IsOpen}
use Rattle.causal_text.specs.Pieces.{PieceState, RepresentsBytes}
use Rattle.causal_text.specs.Spelling.{SpellsWithin, IsFirstFaultWithin, IsFirstFault, IsReadUpTo, IsReadAt}
use Rattle.causal_line.specs.Stages.{max_text_len}

-- a reader as a contract sees it: its source of bytes, and its state
pub record ReaderState (R : Type 0) : Type 0 where
  pub source : R
  pub state : State

-- no byte follows the end line
abbrev pub HasNothingAfterEnd : PieceState → Type 0
HasNothingAfterEnd held = 0 < length held.rest → IsOpen held.place.stage

-- a reader in this state has read these bytes; false of a failed reader
abbrev pub HasReadWithin : ℕ → State → List ℕ → Type 0
HasReadWithin most (state.Reading held) bytes = RepresentsBytes most held bytes × (length bytes ≤ max_text_len most) × HasNothingAfterEnd held
HasReadWithin most (state.Ended r) bytes = SpellsWithin most bytes r
HasReadWithin most state.Failed bytes = ⊥

-- a reader in this state has read these bytes, under the default limits
abbrev pub HasRead : State → List ℕ → Type 0
HasRead state bytes = HasReadWithin default_entries state bytes

-- the text has not ended
abbrev pub IsReading : State → Type 0
IsReading (state.Reading held) = Unit {0}
IsReading s = ⊥

-- the maximum size of a piece in bytes
abbrev pub max_piece : ℕ
max_piece = 4096

-- these bytes decide nothing of a text: their complete lines have no error, no byte follows the end line, and they are
-- within the text's limit
abbrev pub IsUndecided : ℕ → List ℕ → Type 0
IsUndecided most bytes = (held : PieceState) × HasReadWithin most (state.Reading held) bytes

-- the bytes consumed of a source decide nothing of its text, but for one last piece of at most `size` bytes
pub record StopsWithin (most size : ℕ) (old new : Option (List ℕ)) : Type 0 where
  pub before : List ℕ
  pub piece : List ℕ
  pub consumed : Consumes old new (before ++ piece)
  pub undecided : IsUndecided most before
  pub one_piece : length piece ≤ size

-- the bytes consumed of a source decide nothing of its text, but for one last piece at most
abbrev pub StopsOnceDecided : ℕ → Option (List ℕ) → Option (List ℕ) → Type 0
StopsOnceDecided most old new = StopsWithin most max_piece old new

-- `More` follows a piece with bytes, `Ended` an empty piece
abbrev pub HasPiece : Progress → List ℕ → Type 0
HasPiece progress.More piece = (0 < length piece) × (length piece ≤ max_piece)
HasPiece progress.Ended piece = piece ≡ []

-- after `More` the text has not ended, after `Ended` it has
abbrev pub IsProgressOf : Progress → State → Type 0
IsProgressOf progress.More (state.Reading held) = Unit {0}
IsProgressOf progress.Ended (state.Ended r) = Unit {0}
IsProgressOf p s = ⊥

-- `Ended` means that the source has no byte left
abbrev pub EndMeansEmpty : Progress → Option (List ℕ) → Type 0
EndMeansEmpty progress.More left = Unit {0}
EndMeansEmpty progress.Ended left = IsAtEnd left

-- if a call returns `Ended`, the source has no byte left
abbrev pub FoundEnd : Result Progress ReaderFault → Option (List ℕ) → Type 0
FoundEnd result left = IfOk result (λ progress. EndMeansEmpty progress left)

-- after an empty piece the source has no byte left
abbrev pub PieceEndsAt : List ℕ → Option (List ℕ) → Type 0
PieceEndsAt [] left = IsAtEnd left
PieceEndsAt (x ∷ xs) left = Unit {0}

-- the first error of the bytes read: whatever follows, or of them alone if the last piece was empty
abbrev pub IsFaultAfter : ℕ → List ℕ → List ℕ → TextFault → Type 0
IsFaultAfter most [] bytes fault = IsFirstFaultWithin most bytes fault
IsFaultAfter most (x ∷ xs) bytes fault = (more : List ℕ) → IsFirstFaultWithin most (bytes ++ more) fault

-- an error is explained, for a reader that had read the bytes of `read`; `Failed` needs an earlier error
-- An error of the text is that of these bytes and one more piece, unless it is `NoMemory`.
abbrev pub ExplainsFault : Option (List ℕ) → Option (List ℕ) → (List ℕ → Type 0) → ReaderFault → Type 0
ExplainsFault old new read fault.Read = Unit {0}
ExplainsFault old new read (fault.Text f) = f.kind ≢ NoMemory → (piece : List ℕ) × Consumes old new piece × PieceEndsAt piece new × ((b : List ℕ) → read b → IsFaultAfter default_entries piece (b ++ piece) f)
ExplainsFault old new read fault.Failed = (b : List ℕ) → read b → ⊥
ExplainsFault old new read fault.Unfinished = ⊥

-- the line of a `NoMemory` error: the lines before it in the bytes read have no error
abbrev pub IsNoMemoryLine : Option (List ℕ) → Option (List ℕ) → (List ℕ → Type 0) → ReaderFault → Type 0
IsNoMemoryLine old new read (fault.Text f) = f.kind ≡ NoMemory → (piece : List ℕ) × Consumes old new piece × ((b : List ℕ) → read b → IsReadAt default_entries (b ++ piece) f.line)
IsNoMemoryLine old new read fault = Unit {0}

-- if a call fails in this state, its error is explained; `old` and `new` are the source's bytes before and after
abbrev pub HasExplainedFault : Result Progress ReaderFault → Option (List ℕ) → Option (List ℕ) → State → Type 0
HasExplainedFault result old new state = IfErr result (ExplainsFault old new (HasRead state))

-- if a call fails in this state with `NoMemory`, the lines before the error's line have no error
abbrev pub HasNoMemoryLine : Result Progress ReaderFault → Option (List ℕ) → Option (List ℕ) → State → Type 0
HasNoMemoryLine result old new state = IfErr result (IsNoMemoryLine old new (HasRead state))

-- the line of a `NoMemory` error of a source that is read to its end: the lines before it have no error
abbrev pub IsNoMemoryLineOf : List ℕ → ReaderFault → Type 0
IsNoMemoryLineOf bytes (fault.Text f) = f.kind ≡ NoMemory → IsReadUpTo default_entries bytes f.line
IsNoMemoryLineOf bytes fault = Unit {0}

-- an error of a source that is read to its end is explained: the first error of its bytes, unless it is `NoMemory`
abbrev pub ExplainsFaultOf : List ℕ → ReaderFault → Type 0
ExplainsFaultOf bytes fault.Read = Unit {0}
ExplainsFaultOf bytes (fault.Text f) = f.kind ≢ NoMemory → IsFirstFault bytes f
ExplainsFaultOf bytes fault.Failed = ⊥
ExplainsFaultOf bytes fault.Unfinished = ⊥

-- the recording, if the text has ended
abbrev pub trace_of_state : State → Result Recording ReaderFault
trace_of_state (state.Reading held) = Err fault.Unfinished
trace_of_state (state.Ended r) = Ok r
trace_of_state state.Failed = Err fault.Failed

-- the result has this recording, or this error
abbrev pub IsTraceOfState : Result TraceState ReaderFault → Result Recording ReaderFault → Type 0
IsTraceOfState (Ok t) held = held ≡ Ok t.recording
IsTraceOfState (Err e) held = held ≡ Err e
