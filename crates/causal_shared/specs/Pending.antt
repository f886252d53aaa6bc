-- Calls that make no item: the order of pending messages, and the errors of `pending` and `snapshot`.
use Rattle.std.specs.Prelude.{◌≡◌, ◌⊎◌, ⊤, true, List, AllPairs}
use Rattle.std.specs.Ordering.{is_lt}
use Rattle.causal_name.specs.declared.MsgName.{MsgName}
use Rattle.causal_name.specs.Names.{message_cmp}
use Rattle.causal_protocol.specs.declared.request.CoreFault.TheVariants as Faults
use Rattle.causal_shared.specs.declared.fault.SharedFault.{SharedFault}
use Rattle.causal_shared.specs.declared.fault.SharedFault.TheVariants.{WrongSeat, Core}

-- the messages ascend by source and send sequence number
abbrev pub AreAscending : List MsgName → Type 0
AreAscending names = AllPairs (λ a b. is_lt (message_cmp a b) ≡ true) names

-- the errors of `pending`: `WrongSeat`, and the core's `NoProcess`, `Down` and `NoMemory`
abbrev pub IsPendingFault : SharedFault → Type 0
IsPendingFault WrongSeat = ⊤
IsPendingFault (Core Faults.NoProcess) = ⊤
IsPendingFault (Core Faults.Down) = ⊤
IsPendingFault (Core Faults.NoMemory) = ⊤
IsPendingFault fault = ⊥

-- the errors of `snapshot`: `WrongSeat` and the core's `NoMemory`
abbrev pub IsSnapshotFault : SharedFault → Type 0
IsSnapshotFault fault = (fault ≡ WrongSeat) ⊎ (fault ≡ Core Faults.NoMemory)
