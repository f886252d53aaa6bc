-- What an endpoint does with a parcel: the first refusal, what it returns, and its state after.
use Rattle.std.specs.Prelude.{◌≡◌, ℕ, not, max, List, map, Option, None, Some, Result, Ok, Err, length}
use Rattle.std.specs.FinMap as fin
use Rattle.causal_name.specs.declared.Pid.{Pid}
use Rattle.causal_name.specs.declared.Det.{Det}
use Rattle.causal_name.specs.declared.MsgName.{MsgName}
use Rattle.causal_name.specs.Names.{same_pid}
use Rattle.causal_trace.specs.Past.{det_from}
use Rattle.causal_protocol.specs.Naming.{with_own}
use Rattle.causal_log.specs.declared.batch.Item.{Item as LogItem}
use Rattle.causal_log.specs.Logs.{dets_of}
use Rattle.causal_wire.specs.declared.fault.WireFault.{WireFault}
use Rattle.causal_wire.specs.declared.parcel.Head.{Head}
use Rattle.causal_wire.specs.declared.parcel.ParcelItem.{ParcelItem as WireItem}
use Rattle.causal_wire.specs.Parcels.{Contents, message, acknowledgement, question, answer, own_number, not_up}
use Rattle.causal_wire.specs.Bytes.{parcel_bytes}
use Rattle.causal_node.specs.declared.node_answer.RoundReply.{RoundReply}
use Rattle.causal_node.specs.declared.node_answer.RoundReply.TheVariants as Replies
use Rattle.causal_node.specs.NodeStates.{NodeState}
use Rattle.causal_node.specs.NodeRefusals.{deliver_fault}
use Rattle.causal_node.specs.NodeSteps.{node_after_delivery}
use Rattle.causal_node.specs.NodeAnswers.{answer_fault, round_reply, node_after_answer}
use Rattle.causal_node.specs.NodeAcknowledgements.{learn_fault, after_acknowledgement}
use Rattle.causal_node.specs.NodeRecovery.{reply_fault, with_recovery, map_round, with_log_of, after_number, after_not_up}
use Rattle.causal_endpoint.specs.declared.fault.EndpointFault.{EndpointFault}
use Rattle.causal_endpoint.specs.declared.fault.EndpointFault.TheVariants as Faults
use Rattle.causal_endpoint.specs.declared.receiving.Received.{Received}
use Rattle.causal_endpoint.specs.declared.receiving.Received.TheVariants as Receiveds
use Rattle.causal_endpoint.specs.Endpoints.{EndpointState, run_of, head_to, next_clock, with_node}
use Rattle.causal_endpoint.specs.Items.{log_item, wire_entry, log_from}
use Rattle.causal_endpoint.specs.Refusals.{or_else, node_or, clock_fault, IsReason}

-- the name of the message that a parcel with this head brings, and the batch that it carries
abbrev pub name_in : Head → ℕ → MsgName
name_in head ssn = record { source = head.source; ssn = ssn }

abbrev pub batch_in : Head → List WireItem → List LogItem
batch_in head items = map (log_item head.source) items

-- the clock of what follows a parcel at once
abbrev pub clock_after : EndpointState → ℕ → Head → ℕ
clock_after e now head = next_clock now (max e.clock head.clock)

-- the first refusal that applies to what a parcel contains
abbrev pub contents_fault : EndpointState → ℕ → Head → Contents → Option EndpointFault
contents_fault e now head (message ssn items body) = node_or (deliver_fault e.node head.lane (name_in head ssn) (batch_in head items)) (clock_fault (clock_after e now head))
contents_fault e now head (acknowledgement items) = node_or (learn_fault e.node head.lane head.source) None
contents_fault e now head (question round view) = node_or (answer_fault e.node head.source view) (clock_fault (clock_after e now head))
contents_fault e now head (answer round entries) = node_or (reply_fault e.node.recovery round head.source) None
contents_fault e now head (own_number round) = node_or (reply_fault e.node.recovery round head.source) None
contents_fault e now head (not_up round) = node_or (reply_fault e.node.recovery round head.source) None

-- the first refusal that applies to a parcel: it is for another process, or from this one, or its contents are refused
abbrev pub parcel_fault : EndpointState → ℕ → Head × Contents → Option EndpointFault
parcel_fault e now p =
    or_else (not (same_pid p.0.dest e.node.identity.me)) Faults.NotMine
    (or_else (same_pid p.0.source e.node.identity.me) Faults.OwnParcel
    (contents_fault e now p.0 p.1))

-- the first refusal that applies to bytes from which this was read
abbrev pub receive_fault : EndpointState → ℕ → Result (Head × Contents) WireFault → Option EndpointFault
receive_fault e now (Ok p) = parcel_fault e now p
receive_fault e now (Err fault) = Some (Faults.Wire fault)

-- the contents of the reply to a question of this round, by a process whose log has these entries
abbrev pub reply_contents : EndpointState → ℕ → RoundReply → Contents
reply_contents e round Replies.Log = answer round (map (wire_entry e.node.identity.me) (fin.entries e.node.memory.log))
reply_contents e round Replies.OwnNumber = own_number round
reply_contents e round Replies.NotUp = not_up round

-- the bytes of that reply, to the process that asks, at this clock
abbrev pub reply_bytes : EndpointState → Pid → ℕ → ℕ → RoundReply → List ℕ
reply_bytes e to round clock reply = parcel_bytes (run_of e) (head_to e to clock, reply_contents e round reply)

-- what a process has received: a delivery (the message's name, the lane of its source, the clock, the determinant, what
-- it lists, the body), a question with the reply's bytes, or one of the other parcels, which were taken
pub data Receipt : Type 0 where
  delivered : MsgName → ℕ → ℕ → Det → List Det → List ℕ → Receipt
  asked : Pid → List ℕ → Receipt
  learned : Pid → Receipt
  took_log : Pid → Receipt
  took_number : Pid → Receipt
  took_not_up : Pid → Receipt

abbrev pub receipt_of : Received → Receipt
receipt_of (Receiveds.Message d) = delivered d.name d.lane d.clock d.det d.listed d.body.items
receipt_of (Receiveds.Question to bytes) = asked to bytes.items
receipt_of (Receiveds.Acknowledgement from) = learned from
receipt_of (Receiveds.Log from) = took_log from
receipt_of (Receiveds.Number from) = took_number from
receipt_of (Receiveds.NotUp from) = took_not_up from

abbrev pub delivery_at : NodeState → Head → ℕ → ℕ → Det → List WireItem → List ℕ → Receipt
delivery_at n head ssn clock own items body = delivered (name_in head ssn) head.lane clock own (with_own own (dets_of (batch_in head items))) body

-- what is received with a parcel
abbrev pub receipt_at : EndpointState → ℕ → Head → Contents → Receipt
receipt_at e now head (message ssn items body) = delivery_at e.node head ssn (clock_after e now head) (det_from e.node.identity.me (length e.node.memory.received) (name_in head ssn)) items body
receipt_at e now head (acknowledgement items) = learned head.source
receipt_at e now head (question round view) = asked head.source (reply_bytes e head.source round (clock_after e now head) (round_reply e.node view))
receipt_at e now head (answer round entries) = took_log head.source
receipt_at e now head (own_number round) = took_number head.source
receipt_at e now head (not_up round) = took_not_up head.source

-- the node after it has taken a parcel's contents
abbrev pub node_after : NodeState → Head → Contents → NodeState
node_after n head (message ssn items body) = node_after_delivery n (name_in head ssn) (batch_in head items)
node_after n head (acknowledgement items) = after_acknowledgement n (batch_in head items)
node_after n head (question round view) = node_after_answer n view
node_after n head (answer round entries) = with_recovery n (map_round (λ r. with_log_of r head.source.0 (log_from head.source entries)) n.recovery)
node_after n head (own_number round) = after_number n head.source head.lane
node_after n head (not_up round) = after_not_up n head.source head.lane

-- the clock after that: a delivery and a reply are events
abbrev pub clock_with : EndpointState → ℕ → Head → Contents → ℕ
clock_with e now head (message ssn items body) = clock_after e now head
clock_with e now head (question round view) = clock_after e now head
clock_with e now head other = max e.clock head.clock

-- the endpoint after it has taken a parcel's contents, and a parcel
abbrev pub after_contents : EndpointState → ℕ → Head → Contents → EndpointState
after_contents e now head contents = with_node e (node_after e.node head contents) (clock_with e now head contents)

abbrev pub after_parcel : EndpointState → ℕ → Head × Contents → EndpointState
after_parcel e now p = after_contents e now p.0 p.1

-- the bytes are those of a parcel; this was received with it, and this is the state after
pub record IsReceipt (e : EndpointState) (now : ℕ) (read : Result (Head × Contents) WireFault) (r : Received) (next : EndpointState) : Type 0 where
  pub parcel : Head × Contents
  pub is_read : read ≡ Ok parcel
  pub receipt : receipt_of r ≡ receipt_at e now parcel.0 parcel.1
  pub after : next ≡ after_parcel e now parcel

-- a parcel's contents were taken: nothing refuses them, this was received with them, and this is the state after
pub record IsTaken (e : EndpointState) (now : ℕ) (head : Head) (contents : Contents) (r : Received) (next : EndpointState) : Type 0 where
  pub legal : contents_fault e now head contents ≡ None
  pub receipt : receipt_of r ≡ receipt_at e now head contents
  pub after : next ≡ after_contents e now head contents

-- contents were taken, or refused for the first reason that applies with nothing changed
abbrev pub IsOutcome : EndpointState → ℕ → Head → Contents → Result Received EndpointFault → EndpointState → Type 0
IsOutcome e now head contents (Ok r) next = IsTaken e now head contents r next
IsOutcome e now head contents (Err fault) next = IsReason fault (contents_fault e now head contents) × (next ≡ e)
