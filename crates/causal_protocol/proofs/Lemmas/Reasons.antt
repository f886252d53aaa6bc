-- Which faults are reasons for a refusal.
use Rattle.std.proofs.Common.{arith, ◌≡◌, ◌≢◌, Some}
use Rattle.causal_protocol.specs.declared.request.CoreFault.{CoreFault}
use Rattle.causal_protocol.specs.declared.request.CoreFault.TheVariants as Faults
use Rattle.causal_protocol.specs.Steps.{reason_of}

-- every fault except out of memory is a reason
pub reason_known : (fault : CoreFault) → fault ≢ Faults.NoMemory → reason_of fault ≡ Some fault
reason_known fault known = grind arith
