-- The first byte of a message body.
use Rattle.std.specs.Prelude.{ℕ, List, [], ◌∷◌}

-- the first byte of a body, or 0 if it is empty
abbrev pub first_byte : List ℕ → ℕ
first_byte [] = 0
first_byte (b ∷ bs) = b
