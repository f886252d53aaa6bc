-- The sentence that ends the line of a fact, for people. Its wording has no definition.
use Rattle.std.specs.Prelude.{◌≡◌, ◌&&◌, nat_le, ℕ, Bool, true, List, ◌++◌, codes}
use Rattle.std.specs.List.{list_all}

-- whether a byte is a printable ASCII character
abbrev pub is_printable : ℕ → Bool
is_printable byte = nat_le 32 byte && nat_le byte 126

-- each byte is a printable ASCII character
abbrev pub IsPrintable : List ℕ → Type 0
IsPrintable words = list_all is_printable words ≡ true

-- a colon, a space, printable ASCII characters, and a line feed
abbrev pub IsSentence : List ℕ → Type 0
IsSentence text = (words : List ℕ) × IsPrintable words × (text ≡ codes ": " ++ (words ++ codes "\n"))
