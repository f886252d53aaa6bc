-- A node forgets what is known to be stable, except of deliveries that it has still to make.
use Rattle.std.specs.Prelude.{length, Option, None}
use Rattle.causal_name.specs.declared.Slot.{Slot}
use Rattle.causal_log.specs.Logs.{after_forget as log_after_forget}
use Rattle.causal_protocol.specs.Memory.{with_log}
use Rattle.causal_node.specs.declared.node_fault.NodeFault.{NodeFault}
use Rattle.causal_node.specs.NodeStates.{NodeState, with_memory}
use Rattle.causal_node.specs.NodeRefusals.{unless_up}

-- the slot of the next delivery
abbrev pub next_slot : NodeState → Slot
next_slot n = record { dest = n.identity.me; rsn = length n.memory.received }

-- the first refusal that applies to a forgetting, and the node after it
abbrev pub node_forget_fault : NodeState → Option NodeFault
node_forget_fault n = unless_up n.recovery None

abbrev pub node_after_forget : NodeState → NodeState
node_after_forget n = with_memory n (with_log (log_after_forget (next_slot n)) n.memory) n.bodies
