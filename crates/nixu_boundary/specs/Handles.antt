-- Ownership of a value in its box, or of nothing.
use Rattle.std.specs.Prelude.{ℕ, Option, Some, None}
use Rattle.std.specs.Box.Ownership.{box_owns}
use mir.Syntax.{Ty}
use base.Fml.{Fml, ftrue}
use denote.RattleType.{RattleType}
use denote.RawPtr.{Ptr}

-- a box, or nothing
abbrev pub held_owns : (Ty → Ptr → Fml) → (R : RattleType) → Ptr → Option R.Denot → Fml
held_owns token R at None = ftrue
held_owns token R at (Some x) = box_owns token R at x

-- the number of owned boxes, 0 or 1
abbrev pub count_of : {A : Type 0} → Option A → ℕ
count_of None = 0
count_of (Some x) = 1
