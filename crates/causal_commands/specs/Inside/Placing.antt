-- The results of functions that add the places of entries to lines.
use Rattle.std.specs.Prelude.{◌≡◌, ◌++◌, ℕ, List, Option, None, Some, Result, Ok, Err}
use Rattle.causal_outcomes.specs.declared.map_fault.MapFault.{MapFault}
use Rattle.causal_commands.specs.declared.placed_lines.PlaceError.{PlaceError}
use Rattle.causal_commands.specs.declared.placed_lines.PlaceError.TheVariants.{Map, NoMemory}

-- the error of a place is the defined one, or an allocation failed
abbrev pub GivesPlaceError : PlaceError → Result (List ℕ) MapFault → Type 0
GivesPlaceError (Map fault) defined = defined ≡ Err fault
GivesPlaceError NoMemory defined = Unit {0}

-- the place, seen through `view`, is the defined one, or an allocation failed
abbrev pub ReturnsPlace : {X : Type 0} → (X → List ℕ) → Result X PlaceError → Result (List ℕ) MapFault → Type 0
ReturnsPlace view (Ok x) defined = defined ≡ Ok (view x)
ReturnsPlace view (Err error) defined = GivesPlaceError error defined

-- the error is the defined one, or an allocation failed
abbrev pub GivesError : PlaceError → Option MapFault → Type 0
GivesError (Map fault) defined = defined ≡ Some fault
GivesError NoMemory defined = Unit {0}

-- no error is defined, and the text, seen through `view`, has the property; or the error is the defined one; or an
-- allocation failed
abbrev pub ReturnsPlaced : {X : Type 0} → (X → List ℕ) → Result X PlaceError → Option MapFault → (List ℕ → Type 0) → Type 0
ReturnsPlaced view (Ok x) defined P = (defined ≡ None) × P (view x)
ReturnsPlaced view (Err error) defined P = GivesError error defined

-- no error is defined, and a text with the property was appended; or the error is the defined one; or an allocation failed
abbrev pub GivesAfter : List ℕ → List ℕ → Result (Unit {0}) PlaceError → Option MapFault → (List ℕ → Type 0) → Type 0
GivesAfter old new (Ok x) defined P = (defined ≡ None) × ((text : List ℕ) × P text × (new ≡ old ++ text))
GivesAfter old new (Err error) defined P = GivesError error defined
