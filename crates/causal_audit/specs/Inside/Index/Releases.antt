-- How one more entry changes the position from which no process is released.
use Rattle.std.specs.Prelude.{◌≡◌, ℕ, List, ◌∷◌, length}
use Rattle.causal_audit.specs.Inside.Common.{Entry}
use Rattle.causal_audit.specs.NoRelease.{NoneReleasedFrom}

-- if no process is released from `before` on, none is from `after` on with one more entry, at position i
abbrev pub LastsAfter : Entry → ℕ → ℕ → ℕ → Type 0
LastsAfter e i before after = (past : List Entry) → length past ≡ i → NoneReleasedFrom past before → NoneReleasedFrom (e ∷ past) after
