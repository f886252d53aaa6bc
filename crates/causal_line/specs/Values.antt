-- The JSON value of a line, and the parsed line.
use Rattle.std.specs.Prelude.{ℕ, ◌==◌, List, length, take, slice_index, ◌-◌, if◌then◌else◌, Option, Some, None, Result, Ok, Err}
use Rattle.std.specs.Str.{is_utf8}
use Rattle.serde_json.specs.Data.{Data}
use Rattle.serde_json.specs.Read.{read}
use Rattle.causal_line.specs.declared.kind.TextKind.{TextKind}
use Rattle.causal_line.specs.declared.kind.TextKind.TheVariants as kind
use Rattle.causal_line.specs.declared.parsed_line.ParsedLine.{ParsedLine}
use Rattle.causal_line.specs.Lines.{line_feed}
use Rattle.causal_line.specs.Reading.{◌>>=◌}
use Rattle.causal_line.specs.ParsedLines.{parse_value}

-- the line without its line feed
unfoldable pub without_line_feed : List ℕ → List ℕ
without_line_feed line = if slice_index line (length line - 1) == line_feed then take (length line - 1) line else line

-- a missing value is a `Syntax` error
abbrev pub or_syntax : Option Data → Result Data TextKind
or_syntax (Some d) = Ok d
or_syntax None = Err kind.Syntax

-- the JSON value of these bytes; bytes that are not UTF-8 are a `Syntax` error
abbrev pub parse_json : List ℕ → Result Data TextKind
parse_json bytes = if is_utf8 bytes then or_syntax (read bytes) else Err kind.Syntax

-- the JSON value of a line
abbrev pub value_of : List ℕ → Result Data TextKind
value_of line = parse_json (without_line_feed line)

-- the parsed line
unfoldable pub parse_line : List ℕ → Result ParsedLine TextKind
parse_line line = value_of line >>= parse_value
