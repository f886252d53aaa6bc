-- Blank lines, and torn lines, which a kill cut short.
use Rattle.std.specs.Prelude.{ℕ, ◌+◌, ◌==◌, ◌&&◌, ◌||◌, not, nat_le, Bool, List, length, take, slice_index, count_by}
use Rattle.std.specs.List.{list_all}
use Rattle.causal_name.specs.Sets.{any_below}

-- a space, a tab or a carriage return
abbrev pub is_blank_byte : ℕ → Bool
is_blank_byte x = x == 32 || x == 9 || x == 13

-- only spaces, tabs and carriage returns
abbrev pub is_blank : List ℕ → Bool
is_blank bytes = list_all is_blank_byte bytes

-- a lower-case letter, a digit, a space, a bracket, a quotation mark or a comma
unfoldable pub is_torn_byte : ℕ → Bool
is_torn_byte x = (nat_le 97 x && nat_le x 122) || (nat_le 48 x && nat_le x 57) || x == 32 || x == 91 || x == 93 || x == 34 || x == 44

-- `[` alone, or `["` and more
unfoldable pub begins_torn : List ℕ → Bool
begins_torn bytes = slice_index bytes 0 == 91 && (length bytes == 1 || slice_index bytes 1 == 34)

-- the number of occurrences of a byte in a line
abbrev pub byte_count : ℕ → List ℕ → ℕ
byte_count byte bytes = count_by (λ x. x == byte) bytes

-- at most two quotation marks
unfoldable pub has_few_quotes : List ℕ → Bool
has_few_quotes bytes = nat_le (byte_count 34 bytes) 2

-- at least as many closing as opening brackets: none is open
abbrev pub are_closed : List ℕ → Bool
are_closed bytes = nat_le (byte_count 91 bytes) (byte_count 93 bytes)

-- whether no bracket is open after the first byte of a line, or the first two, and so on up to the first n
abbrev pub closes_within : ℕ → List ℕ → Bool
closes_within n bytes = any_below n (λ k. are_closed (take (k + 1) bytes))

-- the beginning of one line that a kill cut short: some bracket is open after each of its bytes
abbrev pub is_torn : List ℕ → Bool
is_torn bytes = begins_torn bytes && (list_all is_torn_byte bytes && (has_few_quotes bytes && not (closes_within (length bytes) bytes)))
