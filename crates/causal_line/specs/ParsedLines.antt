-- The parsed line of a JSON value: a header, an entry or an end line.
use Rattle.std.specs.Prelude.{ℕ, ◌^◌, ◌&&◌, ◌==◌, List, [], ◌∷◌, Bool, codes, nat_lt, bytes_eq, if◌then◌else◌, Option, Some, None, option_map, option_and_then, unwrap_or, Result, Ok, Err}
use Rattle.serde_json.specs.Data.{Data, Items, no_items, item}
use Rattle.serde_json.specs.Find.{at, as_str, as_array, as_number, as_u64}
use Rattle.serde_json.specs.Events.{items_len}
use Rattle.causal_name.specs.declared.Pid.{Pid}
use Rattle.causal_name.specs.declared.Det.{Det}
use Rattle.causal_trace.specs.declared.entry.Entry.TheVariants.{Send, Deliver, Stable, Crash, Restart, Forget}
use Rattle.causal_line.specs.declared.kind.TextKind.{TextKind}
use Rattle.causal_line.specs.declared.kind.TextKind.TheVariants.{Form}
use Rattle.causal_line.specs.declared.parsed_line.ParsedLine.{ParsedLine}
use Rattle.causal_line.specs.declared.parsed_line.ParsedLine.TheVariants as parsed
use Rattle.causal_line.specs.Reading.{◌>>=◌}

-- a missing value is a `Form` error
abbrev pub or_form : {A : Type 0} → Option A → Result A TextKind
or_form (Some x) = Ok x
or_form None = Err Form

-- the item of an array at an index
abbrev pub field : ℕ → Data → Result Data TextKind
field i d = or_form (at i d)

-- the length of an array; 0 for another value
abbrev pub array_len : Data → ℕ
array_len d = unwrap_or (option_map items_len (as_array d)) 0

-- a non-negative integer below a limit
abbrev pub number_below : ℕ → Data → Option ℕ
number_below limit d = option_and_then (λ n. if nat_lt n limit then Some n else None) (option_and_then as_u64 (as_number d))

-- the number at an index, if it is below a limit
abbrev pub number_at : ℕ → ℕ → Data → Result ℕ TextKind
number_at limit i d = or_form (option_and_then (number_below limit) (at i d))

-- the number below 2^8 at an index
abbrev pub u8_at : ℕ → Data → Result ℕ TextKind
u8_at i d = number_at (2 ^ 8) i d

-- the number below 2^32 at an index
abbrev pub u32_at : ℕ → Data → Result ℕ TextKind
u32_at i d = number_at (2 ^ 32) i d

-- the number below 2^64 at an index
abbrev pub u64_at : ℕ → Data → Result ℕ TextKind
u64_at i d = or_form (option_and_then as_u64 (option_and_then as_number (at i d)))

-- the process at an index
unfoldable pub pid_at : ℕ → Data → Result Pid TextKind
pid_at i d = do
  p ← u8_at i d
  Ok (record { 0 = p })

-- the determinant `[source,ssn,dest,rsn]`
unfoldable pub parse_det : Data → Result Det TextKind
parse_det d = if array_len d == 4 then (do
  source ← pid_at 0 d
  ssn ← u32_at 1 d
  dest ← pid_at 2 d
  rsn ← u32_at 3 d
  Ok (record { source = source; ssn = ssn; dest = dest; rsn = rsn })) else Err Form

-- the determinants of a list
abbrev pub parse_dets : Items → Result (List Det) TextKind
parse_dets no_items = Ok []
parse_dets (item d ds) = parse_det d >>= λ det. parse_dets ds >>= λ dets. Ok (det ∷ dets)

-- the list of determinants at an index
unfoldable pub dets_at : ℕ → Data → Result (List Det) TextKind
dets_at i d = do
  items ← or_form (option_and_then as_array (at i d))
  parse_dets items

-- the header `["trace",version,processes]`
unfoldable pub parse_header : Data → Result ParsedLine TextKind
parse_header d = do
  version ← u32_at 1 d
  processes ← u32_at 2 d
  Ok (parsed.Header version processes)

-- the entry `["send",from,to,ssn]`
unfoldable pub parse_send : Data → Result ParsedLine TextKind
parse_send d = do
  from ← pid_at 1 d
  to ← pid_at 2 d
  ssn ← u32_at 3 d
  Ok (parsed.Entry (Send from to ssn))

-- the entry `["deliver",to,send,rsn,[dets]]`
unfoldable pub parse_deliver : Data → Result ParsedLine TextKind
parse_deliver d = do
  to ← pid_at 1 d
  send ← u32_at 2 d
  rsn ← u32_at 3 d
  listed ← dets_at 4 d
  Ok (parsed.Entry (Deliver to send rsn listed))

-- the entry `["stable",det]`
unfoldable pub parse_stable : Data → Result ParsedLine TextKind
parse_stable d = do
  named ← field 1 d
  det ← parse_det named
  Ok (parsed.Entry (Stable det))

-- the entry `["crash",who]`
unfoldable pub parse_crash : Data → Result ParsedLine TextKind
parse_crash d = do
  who ← pid_at 1 d
  Ok (parsed.Entry (Crash who))

-- the entry `["restart",who,[dets]]`
unfoldable pub parse_restart : Data → Result ParsedLine TextKind
parse_restart d = do
  who ← pid_at 1 d
  listed ← dets_at 2 d
  Ok (parsed.Entry (Restart who listed))

-- the entry `["forget",who,[dets]]`
unfoldable pub parse_forget : Data → Result ParsedLine TextKind
parse_forget d = do
  who ← pid_at 1 d
  listed ← dets_at 2 d
  Ok (parsed.Entry (Forget who listed))

-- the end line `["end",entries]`
unfoldable pub end_of : Data → Result ParsedLine TextKind
end_of d = do
  count ← u32_at 1 d
  Ok (parsed.End count)

-- whether the value is an array of n items, the first of which is the name
abbrev pub is_array_named : Data → List ℕ → ℕ → Bool
is_array_named d name n = bytes_eq (unwrap_or (option_and_then as_str (at 0 d)) []) name && (array_len d == n)

-- the parsed line of a JSON value; a value of another form is a `Form` error
unfoldable pub parse_value : Data → Result ParsedLine TextKind
parse_value d =
    if is_array_named d (codes "trace") 3 then parse_header d else
    if is_array_named d (codes "send") 4 then parse_send d else
    if is_array_named d (codes "deliver") 5 then parse_deliver d else
    if is_array_named d (codes "stable") 2 then parse_stable d else
    if is_array_named d (codes "crash") 2 then parse_crash d else
    if is_array_named d (codes "restart") 3 then parse_restart d else
    if is_array_named d (codes "forget") 3 then parse_forget d else
    if is_array_named d (codes "end") 2 then end_of d else
    Err Form
