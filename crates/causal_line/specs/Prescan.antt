-- The nesting and the array lengths of a JSON value that may be a line.
-- A line is an array of at most eight fields. A field may be a list of any length, and a list item a determinant,
-- which is an array of four. None of them contains an object.
use Rattle.std.specs.Prelude.{ℕ, List, Result, Ok, zero, suc, ◌-◌, ◌+◌, ◌==◌, ◌&&◌, nat_lt, is_some, Bool, true, false, if◌then◌else◌}
use Rattle.json.specs.Token.{Token}
use Rattle.serde_json.specs.Data.{Data, number, string, array, object, Items, no_items, item}
use Rattle.serde_json.specs.Read.{number_of}
use Rattle.causal_line.specs.declared.kind.TextKind.{TextKind}
use Rattle.causal_line.specs.declared.parsed_line.ParsedLine.{ParsedLine}
use Rattle.causal_line.specs.Reading.{◌>>=◌}
use Rattle.causal_line.specs.ParsedLines.{parse_value}
use Rattle.causal_line.specs.Values.{parse_json}

-- the maximum nesting depth of a line's arrays
abbrev pub levels : ℕ
levels = 3

-- a count increased by one, but to nine at most
abbrev pub count_capped : ℕ → ℕ
count_capped n = if nat_lt n 9 then n + 1 else n

-- whether an array that may contain this many levels, itself included, may have n items
abbrev pub may_have_items : ℕ → ℕ → Bool
may_have_items zero n = false
may_have_items (suc zero) n = n == 4
may_have_items (suc (suc zero)) n = true
may_have_items (suc (suc (suc more))) n = nat_lt n 9

-- whether a token is a whole value that converts to data
abbrev pub is_plain : Token → Bool
is_plain (Token.string s) = true
is_plain (Token.number s) = is_some (number_of s)
is_plain (Token.boolean b) = true
is_plain Token.null = true
is_plain _ = false

-- whether a value fits where `left` levels of arrays are allowed, and whether items do after n others
abbrev mutual
  pub value_fits : ℕ → Data → Bool
  value_fits left Data.null = true
  value_fits left (Data.boolean b) = true
  value_fits left (number n) = true
  value_fits left (string s) = true
  value_fits left (array ds) = items_fit left 0 ds
  value_fits left (object ms) = false

  pub items_fit : ℕ → ℕ → Items → Bool
  items_fit left n no_items = may_have_items left n
  items_fit left n (item d ds) = value_fits (left - 1) d && items_fit left (count_capped n) ds

-- whether the JSON value of these bytes fits; the bytes exclude the line feed
abbrev pub prescan_of : List ℕ → Result Bool TextKind
prescan_of bytes = parse_json bytes >>= λ d. Ok (value_fits levels d)

-- the parsed line of these bytes, which exclude the line feed
abbrev pub parsed_line_of : List ℕ → Result ParsedLine TextKind
parsed_line_of bytes = parse_json bytes >>= parse_value
