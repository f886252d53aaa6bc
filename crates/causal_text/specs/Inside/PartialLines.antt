-- The partial line: its limit, its completion, and its error.
use Rattle.std.specs.Prelude.{◌≡◌, ℕ, List, [], ◌∷◌, ◌++◌, length, Result, Ok, Err}
use Rattle.causal_trace.specs.Rows.{Recording}
use Rattle.causal_line.specs.declared.kind.TextFault.{TextFault}
use Rattle.causal_lines.specs.ReadPositions.{ReadPosition, position_after, finish_at, HasRoomFor}
use Rattle.causal_text.specs.Pieces.{PieceState}
use Rattle.causal_line.specs.Reading.{◌>>=◌}
use Rattle.causal_text.specs.Inside.LineByLine.{read_text}

-- the buffered bytes may follow the complete lines
abbrev pub FitsLimit : ℕ → PieceState → Type 0
FitsLimit most h = HasRoomFor most h.place (length h.rest)

-- reading returns this error, whatever follows
abbrev pub IsFaultOfAll : ℕ → List ℕ → TextFault → Type 0
IsFaultOfAll most bytes fault = (more : List ℕ) → read_text most (bytes ++ more) ≡ Err fault

-- the state after the rest of a line, with its line feed
abbrev pub with_line : ℕ → PieceState → List ℕ → Result PieceState TextFault
with_line most h line = position_after most h.place (h.rest ++ line) >>= λ p. Ok (record { place = p; rest = [] })

-- the partial line has this error, whatever follows
abbrev pub IsLimitFault : ℕ → PieceState → TextFault → Type 0
IsLimitFault most h fault = (m : List ℕ) → position_after most h.place (h.rest ++ m) ≡ Err fault

-- the position if the text ends with the partial line
abbrev pub last_place : ℕ → PieceState → List ℕ → Result ReadPosition TextFault
last_place most h [] = Ok h.place
last_place most h (x ∷ xs) = position_after most h.place (x ∷ xs)

-- the result if the text ends with the partial line
abbrev pub finish_reading : ℕ → PieceState → Result Recording TextFault
finish_reading most h = last_place most h h.rest >>= λ p. finish_at p p.stage
