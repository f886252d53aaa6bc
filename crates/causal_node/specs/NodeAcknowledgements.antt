-- Acknowledgements: to whom a node sends one, and the holders that it learns from one.
use Rattle.std.specs.Prelude.{ℕ, false, not, nat_lt, is_some, List, map, filter, Option, None}
use Rattle.std.specs.FinMap as fin
use Rattle.causal_name.specs.declared.Pid.{Pid}
use Rattle.causal_name.specs.declared.Det.{Det}
use Rattle.causal_log.specs.declared.batch.Item.{Item}
use Rattle.causal_log.specs.declared.known.Known.{Known}
use Rattle.causal_log.specs.Logs.{LogMap, after_learn_all}
use Rattle.causal_protocol.specs.Memory.{with_log}
use Rattle.causal_node.specs.declared.node_fault.NodeFault.{NodeFault}
use Rattle.causal_node.specs.declared.node_fault.NodeFault.TheVariants as Faults
use Rattle.causal_node.specs.NodeStates.{NodeState, floor_of, with_memory}
use Rattle.causal_node.specs.NodeRefusals.{unless_up, or_else}

-- what an item says of its determinant
abbrev pub known_by_item : Item → Det × Known
known_by_item item = (item.det, record { holders = item.holders; stable = false })

-- the items whose determinants are logged
abbrev pub logged_items : LogMap → List Item → List Item
logged_items log items = filter (λ item. is_some (fin.get log item.det)) items

-- the log once it has learned these items' holders of what it has
abbrev pub log_with_holders : List Item → LogMap → LogMap
log_with_holders items log = after_learn_all (map known_by_item (logged_items log items)) log

-- the first refusal that applies to an acknowledgement of a process from this lane
abbrev pub learn_fault : NodeState → ℕ → Pid → Option NodeFault
learn_fault n lane from =
    unless_up n.recovery
    (or_else (not (nat_lt from.0 n.identity.processes)) Faults.NoProcess
    (or_else (nat_lt lane (floor_of n.floors from)) Faults.OldLane
    None))

-- the first refusal that applies to sending an acknowledgement to a process
abbrev pub node_acknowledge_fault : NodeState → Pid → Option NodeFault
node_acknowledge_fault n to = unless_up n.recovery (or_else (not (nat_lt to.0 n.identity.processes)) Faults.NoProcess None)

-- the node after an acknowledgement with these items, whose holders include its sender
abbrev pub after_acknowledgement : NodeState → List Item → NodeState
after_acknowledgement n items = with_memory n (with_log (log_with_holders items) n.memory) n.bodies
