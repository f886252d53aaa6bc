-- What a call appends to a string or a list.
use Rattle.std.specs.Prelude.{◌≡◌, ◌++◌, ℕ, List, Result, String, OnOk, string_bytes}

-- if the call succeeds, a text is appended to the string
abbrev pub Extends : {A E Z : Type 0} → Result A E → String Z → String Z → Type 0
Extends result old new = OnOk result ((added : List ℕ) × (string_bytes new ≡ string_bytes old ++ added))

-- if the call succeeds, a text with this property is appended to the string
abbrev pub Writes : {A E Z : Type 0} → Result A E → String Z → String Z → (List ℕ → Type 0) → Type 0
Writes result old new P = OnOk result ((added : List ℕ) × P added × (string_bytes new ≡ string_bytes old ++ added))

-- if the call succeeds, these items are appended to the list
abbrev pub Adds : {A E X : Type 0} → Result A E → List X → List X → List X → Type 0
Adds result old new added = OnOk result (new ≡ old ++ added)
