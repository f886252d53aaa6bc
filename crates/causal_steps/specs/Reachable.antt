-- The states that legal steps reach, and what is true of each.
use Rattle.std.specs.Prelude.{◌≡◌, ℕ, true, false, List, [], None}
use Rattle.causal_name.specs.declared.Det.{Det}
use Rattle.causal_trace.specs.declared.entry.Entry.{Entry}
use Rattle.causal_trace.specs.Past.{is_delivered}
use Rattle.causal_trace.specs.Judgement.{IsSafeTrace}
use Rattle.causal_trace.specs.Survivors.{IsFollowed}
use Rattle.causal_steps.specs.Transit.{VolatileState, Survives}
use Rattle.causal_steps.specs.Invariant.{NoSlotIsShared}
use Rattle.causal_steps.specs.Steps.{IsStep}

-- nothing is known, and nothing is in transit
pub record IsInitial (v : VolatileState) : Type 0 where
  pub no_holders : (p : ℕ) (d : Det) (q : ℕ) → v.knows_holder p d q ≡ false
  pub no_stable : (p : ℕ) (d : Det) → v.knows_stable p d ≡ false
  pub no_parcels : (i j : ℕ) → v.parcels i j ≡ None

-- a run begins with nothing, and goes on by legal steps
pub data IsReachableState (n f : ℕ) : List Entry → VolatileState → Type 0 where
  initial : (v : VolatileState) → IsInitial v → IsReachableState n f [] v
  next_state : (past next : List Entry) (v w : VolatileState) → IsReachableState n f past v → IsStep n f past v next w → IsReachableState n f next w

-- each instant of the recording is safe for f
abbrev pub ReachableAreSafe : Type 0
ReachableAreSafe = (n f : ℕ) (past : List Entry) (v : VolatileState) → IsReachableState n f past v → IsSafeTrace (record { processes = n; past = past }) f

-- no two determinants that survive, in transit too, share a slot
abbrev pub ReachableShareNoSlot : Type 0
ReachableShareNoSlot = (n f : ℕ) (past : List Entry) (v : VolatileState) → IsReachableState n f past v → NoSlotIsShared n past v

-- at each instant of the recording no two determinants that are stable or logged share a slot
abbrev pub ReachableAreFollowed : Type 0
ReachableAreFollowed = (n f : ℕ) (past : List Entry) (v : VolatileState) → IsReachableState n f past v → IsFollowed (record { processes = n; past = past })

-- what survives is the determinant of a delivery so far
abbrev pub ReachableSurvivorsAreDelivered : Type 0
ReachableSurvivorsAreDelivered = (n f : ℕ) (past : List Entry) (v : VolatileState) → IsReachableState n f past v → (d : Det) → Survives n past v d → is_delivered past d ≡ true
