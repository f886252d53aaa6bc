-- Conversions of results whose error type changes.
use Rattle.std.specs.Prelude.{Result, Ok, Err}
use Rattle.causal_core.specs.declared.restart.Refused.{Refused}
use Rattle.causal_shared.specs.declared.refused.LockedRefused.{LockedRefused}
use Rattle.causal_shared.specs.declared.refused.SharedRefused.{SharedRefused}
use Rattle.causal_shared.specs.declared.fault.LockedFault.TheVariants.{Core}
use Rattle.causal_shared.specs.Seat.{shared_fault_of}

-- the result with its error converted
abbrev pub map_refusal : {A E F : Type 0} → (E → F) → Result A E → Result A F
map_refusal refusal (Ok a) = Ok a
map_refusal refusal (Err e) = Err (refusal e)

-- the locked value's refusal of a restart, made from the core's
abbrev pub core_refusal : {B : Type 0} → Refused B → LockedRefused B
core_refusal refused = record { fault = Core refused.fault; spare = refused.spare }

-- the shared runtime's refusal of a restart, made from the locked value's
abbrev pub shared_refusal : {B : Type 0} → LockedRefused B → SharedRefused B
shared_refusal refused = record { fault = shared_fault_of refused.fault; spare = refused.spare }
