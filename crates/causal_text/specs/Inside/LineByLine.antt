-- The result of reading a text line by line.
use Rattle.std.specs.Prelude.{ℕ, List, [], ◌∷◌, Result, Ok}
use Rattle.causal_trace.specs.Rows.{Recording}
use Rattle.causal_line.specs.declared.kind.TextFault.{TextFault}
use Rattle.causal_line.specs.Lines.{lines}
use Rattle.causal_lines.specs.ReadPositions.{ReadPosition, start_position, position_after, finish_at}
use Rattle.causal_line.specs.Reading.{◌>>=◌}

-- the position after these lines, or the error of the first faulty one
abbrev pub after_lines : ℕ → ReadPosition → List (List ℕ) → Result ReadPosition TextFault
after_lines most p [] = Ok p
after_lines most p (l ∷ ls) = position_after most p l >>= λ q. after_lines most q ls

-- the recording that a text spells, or its first error
abbrev pub read_text : ℕ → List ℕ → Result Recording TextFault
read_text most text = after_lines most start_position (lines text) >>= λ p. finish_at p p.stage
