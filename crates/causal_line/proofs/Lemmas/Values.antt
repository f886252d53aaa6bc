-- The JSON value of a line, or its error.
use Rattle.std.proofs.Common.{arith, ◌≡◌, ℕ, List, Some, None, Ok, Err, refl}
use Rattle.std.specs.Prelude.{IsUtf8}
use Rattle.std.proofs.lemmas.Str.{IsUtf8-from_is_utf8, is_utf8-from_IsUtf8}
use Rattle.serde_json.specs.Data.{Data}
use Rattle.serde_json.specs.Read.{read}
use Rattle.causal_line.specs.declared.kind.TextKind.TheVariants.{Syntax}
use Rattle.causal_line.specs.Values.{parse_json}

-- UTF-8 bytes that read as a value have this value
pub json_of-utf8 : (line : List ℕ) (d : Data) → IsUtf8 line → read line ≡ Some d → parse_json line ≡ Ok d
json_of-utf8 line d utf8 is = rw (is_utf8-from_IsUtf8 line utf8, is) refl

-- bytes that do not read as a value are a `Syntax` error
pub json_of-none : (line : List ℕ) → (IsUtf8 line → read line ≡ None) → parse_json line ≡ Err Syntax
json_of-none line h = grind (arith, IsUtf8-from_is_utf8)

-- both results
pub ruleset json_results = (json_of-utf8, json_of-none)
