-- Laws of torn lines: each beginning of a whole line is torn, and no line with a whole line in it is.
use Rattle.std.specs.Prelude.{◌≡◌, ℕ, ◌-◌, ◌<◌, ◌≤◌, true, false, List, ◌++◌, length, take}
use Rattle.std.specs.List.{list_all}
use Rattle.causal_merge.specs.TornLines.{begins_torn, is_torn_byte, byte_count, are_closed, closes_within, is_torn}

-- A line as a recorder writes it: an array of a word, numbers and arrays. It begins with `["` and has two quotation
-- marks, and after its last byte, and no sooner, no bracket is open.
pub record IsWholeLine (line : List ℕ) : Type 0 where
  pub long : 2 ≤ length line
  pub begins : begins_torn line ≡ true
  pub bytes : list_all is_torn_byte line ≡ true
  pub quotes : byte_count 34 line ≡ 2
  pub closed : are_closed line ≡ true
  pub no_sooner : closes_within (length line - 1) line ≡ false

-- each beginning of a whole line is torn
abbrev pub PrefixesAreTorn : Type 0
PrefixesAreTorn = (line : List ℕ) (k : ℕ) → IsWholeLine line → 0 < k → k < length line → is_torn (take k line) ≡ true

-- a line that has a whole line in it is not torn, whatever lies before or behind that
abbrev pub WholeLinesAreKept : Type 0
WholeLinesAreKept = (before line after : List ℕ) → IsWholeLine line → is_torn (before ++ (line ++ after)) ≡ false

-- no bracket stays open to the end of a torn line but is closed sooner: each beginning has more opening than closing ones
abbrev pub TornLinesStayOpen : Type 0
TornLinesStayOpen = (line : List ℕ) (k : ℕ) → is_torn line ≡ true → 0 < k → k ≤ length line → are_closed (take k line) ≡ false
