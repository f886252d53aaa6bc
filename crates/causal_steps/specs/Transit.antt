-- What logs know and what is in transit between processes, and which determinants survive.
use Rattle.std.specs.Prelude.{◌≡◌, ℕ, ◌<◌, Bool, true, List, Option, Some, ◌⊎◌}
use Rattle.causal_name.specs.declared.Det.{Det}
use Rattle.causal_trace.specs.declared.entry.Entry.{Entry}
use Rattle.causal_trace.specs.Past.{logs, is_stable}

-- what may still come to a log, as a message, an answer to a question, an acknowledgement or a write to stable
-- storage: who sent it, of a message at which position, which determinants it carries, whom it names as their
-- holders, and which it calls stable
pub record TransitParcel : Type 0 where
  -- the process that sent it
  pub from : ℕ
  -- of a message the position of its send entry
  pub send : Option ℕ
  -- the determinants that it carries
  pub carries : Det → Bool
  -- the processes that it names as holders of a determinant
  pub names_holder : Det → ℕ → Bool
  -- the determinants that it calls stable
  pub names_stable : Det → Bool

-- which holders each process knows, which determinants it knows to be stable, and what is in transit, each parcel at
-- two numbers of its own
pub record VolatileState : Type 0 where
  -- whether the first process knows that the last one holds the determinant
  pub knows_holder : ℕ → Det → ℕ → Bool
  -- whether the process knows the determinant to be stable
  pub knows_stable : ℕ → Det → Bool
  -- the parcel at these numbers
  pub parcels : ℕ → ℕ → Option TransitParcel

-- the parcel is in transit
abbrev pub IsInTransit : VolatileState → TransitParcel → Type 0
IsInTransit v t = (i j : ℕ) × (v.parcels i j ≡ Some t)

-- some process logs d
abbrev pub IsLoggedBySome : ℕ → List Entry → Det → Type 0
IsLoggedBySome n past d = (p : ℕ) × (p < n) × (logs past p d ≡ true)

-- something in transit carries d
abbrev pub IsCarried : VolatileState → Det → Type 0
IsCarried v d = (t : TransitParcel) × IsInTransit v t × (t.carries d ≡ true)

-- d survives: it is stable, logged or in transit
abbrev pub Survives : ℕ → List Entry → VolatileState → Det → Type 0
Survives n past v d = (is_stable past d ≡ true) ⊎ (IsLoggedBySome n past d ⊎ IsCarried v d)
