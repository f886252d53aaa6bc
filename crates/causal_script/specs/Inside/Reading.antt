-- Parsing of one line, token by token.
use Rattle.std.specs.Prelude.{ℕ, ◌==◌, ◌&&◌, not, Bool, true, false, List, [], ◌∷◌, codes, bytes_eq, nat_le, nat_lt, if◌then◌else◌, Option, Some, None, option_map}
use Rattle.std.specs.Char.{is_ascii_digit}
use Rattle.std.specs.Str.{all_ascii_digits}
use Rattle.std.specs.Str.Parse.{digits_value}
use Rattle.causal_name.specs.declared.Pid.{Pid}
use Rattle.causal_protocol.specs.declared.request.Request.{Request}
use Rattle.causal_protocol.specs.declared.request.Request.TheVariants.{Deliver, Crash, Restart, Flush, Forget}
use Rattle.causal_script.specs.declared.script.Kind.{Kind}
use Rattle.causal_script.specs.declared.script.Kind.TheVariants.{Ring, Echo, Tally}
use Rattle.causal_script.specs.declared.script.Exploration.{Exploration}
use Rattle.causal_script.specs.declared.start.Start.{Start}
use Rattle.causal_script.specs.Spelling.{max_steps}

-- applies the next parsing step if the first returned a value
infixl 10 ◌>>=◌
abbrev pub ◌>>=◌ : {A B : Type 0} → Option A → (A → Option B) → Option B
None >>= f = None
(Some x) >>= f = f x

-- the bytes before the first such byte, and the bytes after it
abbrev pub split_at_byte : ℕ → List ℕ → Option (List ℕ × List ℕ)
split_at_byte byte [] = None
split_at_byte byte (x ∷ xs) = if x == byte then Some ([], xs) else option_map (λ parts. (x ∷ parts.0, parts.1)) (split_at_byte byte xs)

-- the byte between two tokens
abbrev pub space : ℕ
space = 32

-- digits without a leading zero
abbrev pub is_plain_number : List ℕ → Bool
is_plain_number [] = false
is_plain_number (x ∷ []) = is_ascii_digit x
is_plain_number (x ∷ y ∷ ys) = not (x == 48) && all_ascii_digits (x ∷ y ∷ ys)

-- the number that a token spells, up to a limit
unfoldable pub parse_number : ℕ → List ℕ → Option ℕ
parse_number limit word =
    if is_plain_number word && nat_le (digits_value 10 word) limit then Some (digits_value 10 word) else None

-- the process with the number that a token spells
unfoldable pub parse_process : List ℕ → Option Pid
parse_process word = parse_number 255 word >>= λ n. Some (record { 0 = n })

-- the delivery in `Q SOURCE SSN`
unfoldable pub parse_delivery : List ℕ → Option Request
parse_delivery words =
    split_at_byte space words >>= λ a. split_at_byte space a.1 >>= λ b.
    parse_process a.0 >>= λ q. parse_process b.0 >>= λ source. parse_number 4294967295 b.1 >>= λ ssn. Some (Deliver q source ssn)

-- a command with one process, by its name
unfoldable pub parse_process_command : List ℕ → Pid → Option Request
parse_process_command name p =
    if bytes_eq name (codes "crash") then Some (Crash p) else
    if bytes_eq name (codes "restart") then Some (Restart p) else
    if bytes_eq name (codes "flush") then Some (Flush p) else
    if bytes_eq name (codes "forget") then Some (Forget p) else
    None

-- a command, by its name and its arguments
unfoldable pub named_request : List ℕ → List ℕ → Option Request
named_request name words =
    if bytes_eq name (codes "deliver") then parse_delivery words else parse_process words >>= (λ p. parse_process_command name p)

-- the request in a line after the first
unfoldable pub parse_request : List ℕ → Option Request
parse_request line = split_at_byte space line >>= λ a. named_request a.0 a.1

-- the process count that a token spells, 1 to 256
unfoldable pub parse_count : List ℕ → Option ℕ
parse_count word = parse_number 256 word >>= λ n. if nat_lt 0 n then Some n else None

-- the last number of a start, and the exploration `SEED STEPS` after it, if there is to be one
unfoldable pub split_last : Bool → List ℕ → Option (List ℕ × Option Exploration)
split_last explores words =
    if explores then
    split_at_byte space words >>= (λ a. split_at_byte space a.1 >>= λ b.
    parse_number 4294967295 b.0 >>= λ seed. parse_number max_steps b.1 >>= λ steps. Some (a.0, Some (record { seed = seed; steps = steps })))
    else Some (words, None)

-- a start with the process count and failure bound in these two tokens
unfoldable pub numbered_start : Kind → List ℕ → List ℕ → ℕ → Option Exploration → Option Start
numbered_start kind n f param exploration =
    parse_count n >>= λ n. parse_number 65535 f >>= λ f. Some (record { kind = kind; n = n; f = f; param = param; exploration = exploration })

-- the start in `N F PARAM`, or in `N F PARAM SEED STEPS`
unfoldable pub parse_start_numbers : Bool → Kind → List ℕ → Option Start
parse_start_numbers explores kind words =
    split_at_byte space words >>= λ a. split_at_byte space a.1 >>= λ b. split_last explores b.1 >>= λ c.
    parse_number 255 c.0 >>= λ param. numbered_start kind a.0 b.0 param c.1

-- the start in `N F`, or in `N F SEED STEPS`
unfoldable pub tally_of : Bool → List ℕ → Option Start
tally_of explores words = split_at_byte space words >>= λ a. split_last explores a.1 >>= λ c. numbered_start Tally a.0 c.0 0 c.1

-- a start, by its kind and its numbers
unfoldable pub start_of_kind : Bool → List ℕ → List ℕ → Option Start
start_of_kind explores kind words =
    if bytes_eq kind (codes "ring") then parse_start_numbers explores Ring words else
    if bytes_eq kind (codes "echo") then parse_start_numbers explores Echo words else
    if bytes_eq kind (codes "tally") then tally_of explores words else
    None

-- a start, by the first token and the rest of the line
unfoldable pub named_start : List ℕ → List ℕ → Option Start
named_start name words =
    if bytes_eq name (codes "start") then split_at_byte space words >>= (λ a. start_of_kind false a.0 a.1) else
    if bytes_eq name (codes "explore") then split_at_byte space words >>= (λ a. start_of_kind true a.0 a.1) else
    None

-- the start in a first line
unfoldable pub start_of : List ℕ → Option Start
start_of line = split_at_byte space line >>= λ a. named_start a.0 a.1
