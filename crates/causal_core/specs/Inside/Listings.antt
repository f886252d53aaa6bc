-- The pending messages of one sender.
use Rattle.std.specs.Prelude.{ℕ, List, map, filter}
use Rattle.std.specs.List.{range_with_len}
use Rattle.causal_name.specs.declared.Pid.{Pid}
use Rattle.causal_name.specs.declared.MsgName.{MsgName}
use Rattle.causal_protocol.specs.Memory.{Memories}
use Rattle.causal_protocol.specs.Naming.{message_name}
use Rattle.causal_core.specs.Pendings.{is_pending}

-- what is pending for q among the first `count` messages of a sender
abbrev pub pending_of : Memories → Pid → Pid → ℕ → List MsgName
pending_of ms q source count = filter (is_pending ms q) (map (message_name source) (range_with_len 0 count))
