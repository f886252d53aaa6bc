-- What a delivery and a restart list, by membership.
use Rattle.std.specs.Prelude.{◌≡◌, ◌||◌}
use Rattle.causal_name.specs.declared.Pid.{Pid}
use Rattle.causal_name.specs.declared.MsgName.{MsgName}
use Rattle.causal_name.specs.declared.Det.{Det}
use Rattle.causal_name.specs.Names.{same_det}
use Rattle.causal_trace.specs.Past.{list_has}
use Rattle.causal_log.specs.Logs.{dets_of}
use Rattle.causal_protocol.specs.Memory.{Memories, batch_of}
use Rattle.causal_protocol.specs.Run.{Run}
use Rattle.causal_protocol.specs.Naming.{next_own_det, listed_for}
use Rattle.causal_protocol.specs.Refusals.{restart_list}
use Rattle.causal_protocol.specs.Invariant.{survives}

-- a delivery lists exactly its own determinant and what the message carries
abbrev pub DeliveryListsAreExact : Type 0
DeliveryListsAreExact = (ms : Memories) (q : Pid) (m : MsgName) (d : Det) → list_has (listed_for ms q m) d ≡ (same_det d (next_own_det ms q m) || list_has (dets_of (batch_of ms m)) d)

-- a restart lists exactly what survives: what the log of an up process has, or stable storage
abbrev pub RestartListsAreExact : Run → Type 0
RestartListsAreExact r = (p : Pid) (d : Det) → list_has (restart_list r p) d ≡ survives r.recording.processes r.recording.past d
