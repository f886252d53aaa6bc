-- How one more entry changes the positions of the deliveries.
use Rattle.std.specs.Prelude.{◌≡◌, ℕ, List, ◌∷◌, length}
use Rattle.causal_audit.specs.Inside.Common.{Entry}
use Rattle.causal_audit.specs.Numbers.{ArePositions}

-- if `before` contains the positions of all deliveries, `after` does with one more entry, at position i
abbrev pub ArePositionsAfter : Entry → ℕ → List ℕ → List ℕ → Type 0
ArePositionsAfter e i before after = (past : List Entry) → length past ≡ i → ArePositions past before → ArePositions (e ∷ past) after
