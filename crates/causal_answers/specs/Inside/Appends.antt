-- Appending to a string.
use Rattle.std.specs.Prelude.{◌≡◌, ℕ, List, ◌++◌, Result, OnOk, string_bytes}
use Rattle.std.specs.declared.string.String.{String}

-- these bytes are appended to the string
abbrev pub Appends : {Z : Type 0} → String Z → String Z → List ℕ → Type 0
Appends old new bytes = string_bytes new ≡ string_bytes old ++ bytes

-- if the call succeeds, bytes with this property are appended to the string
abbrev pub Writes : {A E Z : Type 0} → Result A E → String Z → String Z → (List ℕ → Type 0) → Type 0
Writes result old new P = OnOk result ((bytes : List ℕ) × P bytes × (string_bytes new ≡ string_bytes old ++ bytes))
