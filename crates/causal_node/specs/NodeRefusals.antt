-- Why a node refuses a call: the first of its rows of faults that applies, decided without memory.
use Rattle.std.specs.Prelude.{ℕ, Bool, not, nat_lt, nat_le, List, length, Option, Some, None, if◌then◌else◌}
use Rattle.causal_name.specs.declared.Pid.{Pid}
use Rattle.causal_name.specs.declared.MsgName.{MsgName}
use Rattle.causal_name.specs.Names.{same_message}
use Rattle.causal_log.specs.declared.batch.Item.{Item}
use Rattle.causal_log.specs.Logs.{dets_of}
use Rattle.causal_protocol.specs.Limits.{max_run_entries, max_run_listed}
use Rattle.causal_protocol.specs.Naming.{with_own}
use Rattle.causal_trace.specs.Past.{det_from}
use Rattle.causal_node.specs.declared.node_fault.NodeFault.{NodeFault}
use Rattle.causal_node.specs.declared.node_fault.NodeFault.TheVariants as Faults
use Rattle.causal_memory.specs.Namings.{named_message_by}
use Rattle.causal_node.specs.NodeStates.{NodeState, Recovery, floor_of, has_name}

-- the fault of a node that is not up
abbrev pub unless_up : Recovery → Option NodeFault → Option NodeFault
unless_up None rest = rest
unless_up (Some r) rest = Some Faults.NotUp

-- this fault if the test holds, else what follows
abbrev pub or_else : Bool → NodeFault → Option NodeFault → Option NodeFault
or_else test fault rest = if test then Some fault else rest

-- another message is named for the next delivery, or none is and this one is named for a later delivery
abbrev pub naming_fault : Option MsgName → Bool → MsgName → Option NodeFault → Option NodeFault
naming_fault (Some other) reserved name rest = or_else (not (same_message other name)) (Faults.MustReplay other) rest
naming_fault None reserved name rest = or_else reserved Faults.Reserved rest

-- the first refusal that applies to the delivery of a message from this lane, with this name and piggyback
abbrev pub deliver_fault : NodeState → ℕ → MsgName → List Item → Option NodeFault
deliver_fault n lane name items =
    unless_up n.recovery
    (or_else (not (nat_lt name.source.0 n.identity.processes)) Faults.NoProcess
    (or_else (nat_lt lane (floor_of n.floors name.source)) Faults.OldLane
    (or_else (has_name n.received_names name) Faults.Duplicate
    (naming_fault (named_message_by n.identity.me n.memory None) (has_name n.reserved_names name) name
    (or_else (nat_le max_run_entries (length n.memory.received)) Faults.Full
    (or_else (nat_lt max_run_listed (length (with_own (det_from n.identity.me (length n.memory.received) name) (dets_of items)))) Faults.Full
    None))))))

-- the first refusal that applies to a send
abbrev pub node_send_fault : NodeState → Pid → Option NodeFault
node_send_fault n to =
    unless_up n.recovery
    (or_else (not (nat_lt to.0 n.identity.processes)) Faults.NoProcess
    (or_else (nat_le max_run_entries (length n.memory.sent)) Faults.Full
    None))

-- the refusal that a fault means: none for `NoMemory`, which requires that none applies
abbrev pub node_reason_of : NodeFault → Option NodeFault
node_reason_of Faults.NoMemory = None
node_reason_of fault = Some fault
