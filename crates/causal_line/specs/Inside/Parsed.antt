-- The next stage, by what a parser returned.
use Rattle.std.specs.Prelude.{ℕ, Result}
use Rattle.causal_line.specs.declared.kind.TextKind.{TextKind}
use Rattle.causal_line.specs.declared.parsed_line.ParsedLine.{ParsedLine}
use Rattle.causal_line.specs.declared.stage.Stage.{Stage}
use Rattle.causal_line.specs.Reading.{◌>>=◌}
use Rattle.causal_line.specs.Stages.{apply_line}

-- the stage after a parsed line, or the error of the parser
abbrev pub apply_result : ℕ → Stage → Result ParsedLine TextKind → Result Stage TextKind
apply_result most stage read = read >>= apply_line most stage
