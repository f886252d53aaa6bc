-- A failure of the store, by its counts of faults, as a flush reports it.
use Rattle.std.specs.Prelude.{◌≡◌, ◌⊎◌, ℕ, ◌<◌, ◌-◌, ◌^◌, Result, Err, None, length}
use Rattle.causal_name.specs.declared.Pid.{Pid}
use Rattle.causal_protocol.specs.declared.request.FlushFault.{FlushFault}
use Rattle.causal_protocol.specs.declared.request.CoreFault.TheVariants as Faults
use Rattle.causal_protocol.specs.declared.request.Request.TheVariants as Requests
use Rattle.causal_protocol.specs.Refusals.{dets_to_flush, request_fault}
use Rattle.causal_protocol.specs.Run.{Run}

-- the store's count of faults rose, or is at its maximum
abbrev pub HasFailed : ℕ → ℕ → Type 0
HasFailed old new = (old < new) ⊎ (new ≡ 2 ^ 64 - 1)

-- if the fault of a flush is `StoreFault`, the store failed, by its counts of faults before and after
abbrev pub FaultMeansFailure : ℕ → ℕ → FlushFault → Type 0
FaultMeansFailure old new f = f.fault ≡ Faults.StoreFault → HasFailed old new

-- no row refuses a flush of p, and it has a determinant to write
pub record HasUnflushed (r : Run) (p : Pid) : Type 0 where
  pub legal : request_fault r (Requests.Flush p) ≡ None
  pub some : 0 < length (dets_to_flush r p)

-- if the store can count no more faults, such a flush fails with `StoreFault` before it allocates, and writes nothing
abbrev pub StoreFaultIsFirst : ℕ → Run → Pid → Result ℕ FlushFault → Type 0
StoreFaultIsFirst faults r p result =
    faults ≡ 2 ^ 64 - 1 → HasUnflushed r p → result ≡ Err (record { fault = Faults.StoreFault; done = 0 })
