-- The JSON value of a line, if a tree is built of it.
use Rattle.std.specs.Prelude.{◌≡◌, ℕ, List, Option, Some, None, Ok, Err}
use Rattle.serde_json.specs.Data.{Data}
use Rattle.serde_json.specs.View.{view}
use Rattle.serde_json.specs.declared.value.Value.{Value}
use Rattle.causal_line.specs.declared.kind.TextKind.TheVariants.{Form}
use Rattle.causal_line.specs.Values.{parse_json}
use Rattle.causal_merge.specs.Shapes.{parse_recorder_value}

-- the bytes have this value; or no tree is built, and they are JSON that has none of the shapes of a line
abbrev pub IsValueOf : List ℕ → Option Value → Type 0
IsValueOf bytes (Some value) = parse_json bytes ≡ Ok (view value)
IsValueOf bytes None = (d : Data) × (parse_json bytes ≡ Ok d) × (parse_recorder_value d ≡ Err Form)
