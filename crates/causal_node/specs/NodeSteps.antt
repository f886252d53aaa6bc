-- What the calls of a node do: the local part of the protocol's steps.
use Rattle.std.specs.Prelude.{◌≡◌, ◌++◌, ◌∷◌, [], ℕ, List, length}
use Rattle.causal_name.specs.declared.Pid.{Pid}
use Rattle.causal_name.specs.declared.MsgName.{MsgName}
use Rattle.std.specs.BTreeSet.{insert_key}
use Rattle.causal_name.specs.Names.{message_cmp}
use Rattle.causal_trace.specs.Past.{det_from}
use Rattle.causal_log.specs.declared.batch.Item.{Item}
use Rattle.causal_log.specs.Logs.{dets_of}
use Rattle.causal_protocol.specs.Memory.{with_received, with_sent}
use Rattle.causal_protocol.specs.Naming.{with_own}
use Rattle.causal_node.specs.declared.node_delivery.Delivery.{Delivery}
use Rattle.causal_node.specs.NodeStates.{NodeState, with_memory}

-- the node after the delivery of a message with this name and piggyback
abbrev pub node_after_delivery : NodeState → MsgName → List Item → NodeState
node_after_delivery n name items = record n {
  memory = with_received items (det_from n.identity.me (length n.memory.received) name) n.memory;
  received_names = insert_key message_cmp n.received_names name;
}

-- its determinant has the next number; it lists that and what the message carries
pub record IsDelivery (n : NodeState) (name : MsgName) (items : List Item) (d : Delivery) : Type 0 where
  pub det : d.det ≡ det_from n.identity.me (length n.memory.received) name
  pub listed : d.listed ≡ with_own d.det (dets_of items)

-- the node after it has sent a message: it keeps the message with what the log chooses for f
abbrev pub node_after_send : NodeState → Pid → List ℕ → NodeState
node_after_send n to body = with_memory n (with_sent n.identity.faults to (length n.memory.sent) n.memory) (n.bodies ++ body ∷ [])
