-- The position of a reader of lines, and the position after one more line.
use Rattle.std.specs.Prelude.{◌≡◌, ℕ, ◌+◌, ◌<◌, ◌≤◌, List, length, Option, Some, None, Result, Ok, Err}
use Rattle.causal_trace.specs.Rows.{Recording}
use Rattle.causal_line.specs.declared.kind.TextKind.TheVariants as kind
use Rattle.causal_line.specs.declared.kind.TextFault.{TextFault}
use Rattle.causal_line.specs.declared.stage.Stage.{Stage}
use Rattle.causal_line.specs.declared.stage.Stage.TheVariants.{Opening, Within, Ended}
use Rattle.causal_line.specs.Reading.{◌>>=◌}
use Rattle.causal_line.specs.Refusals.{◌at◌}
use Rattle.causal_line.specs.Stages.{max_text_len, advance_stage}

-- a position: the stage after the lines so far, their number, and their size in bytes
pub record ReadPosition : Type 0 where
  pub stage : Stage
  pub count : ℕ
  pub size : ℕ

-- the position before the first line
abbrev pub start_position : ReadPosition
start_position = record { stage = Opening; count = 0; size = 0 }

-- the number of entries read at a stage
abbrev pub entries_in : Stage → ℕ
entries_in Opening = 0
entries_in (Within version r) = length r.past
entries_in (Ended version r) = length r.past

-- the recording of the lines up to a stage; None before the header
abbrev pub recording_at : Stage → Option Recording
recording_at Opening = None
recording_at (Within version r) = Some r
recording_at (Ended version r) = Some r

-- the number of lines read at a stage
abbrev pub lines_in : Stage → ℕ
lines_in Opening = 0
lines_in (Within version r) = length r.past + 1
lines_in (Ended version r) = length r.past + 2

-- the position after one more line, or the error of the line
abbrev pub position_after : ℕ → ReadPosition → List ℕ → Result ReadPosition TextFault
position_after most p line = (advance_stage most p.stage (p.size + length line) line at (p.count + 1)) >>= λ s. Ok (record { stage = s; count = p.count + 1; size = p.size + length line })

-- the stage is not after an end line
abbrev pub IsOpen : Stage → Type 0
IsOpen (Ended version r) = ⊥
IsOpen _ = Unit {0}

-- n more bytes may follow: with them the text is within its limit, if the lines so far are, and no byte follows the end
-- line
pub record HasRoomFor (most : ℕ) (p : ReadPosition) (n : ℕ) : Type 0 where
  pub within : p.size ≤ max_text_len most → p.size + n ≤ max_text_len most
  pub open_text : 0 < n → IsOpen p.stage

-- each line of at least n bytes has this error, whatever it contains
abbrev pub IsFaultFrom : ℕ → ReadPosition → ℕ → TextFault → Type 0
IsFaultFrom most p n fault = (line : List ℕ) → n ≤ length line → position_after most p line ≡ Err fault

-- the recording, if the text ends at this stage; `Cut` without an end line
abbrev pub finish_at : ReadPosition → Stage → Result Recording TextFault
finish_at p Opening = Err (record { line = p.count + 1; kind = kind.Cut })
finish_at p (Within version r) = Err (record { line = p.count + 1; kind = kind.Cut })
finish_at p (Ended version r) = Ok r
