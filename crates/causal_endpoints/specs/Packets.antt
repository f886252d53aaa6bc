-- What the bytes of a parcel are in the theory of nodes: a packet.
use Rattle.std.specs.Prelude.{◌≡◌, ℕ, ◌==◌, List, Some, if◌then◌else◌}
use Rattle.causal_name.specs.declared.Pid.{Pid}
use Rattle.causal_name.specs.declared.MsgName.{MsgName}
use Rattle.causal_trace.specs.declared.entry.Entry.{Entry}
use Rattle.causal_trace.specs.Past.{instant, lane as lane_of, message_at}
use Rattle.causal_wire.specs.declared.parcel.Head.{Head}
use Rattle.causal_wire.specs.Parcels.{Contents, message, acknowledgement, question, answer, own_number, not_up, IsParcel}
use Rattle.causal_wire.specs.Bytes.{parcel_bytes}
use Rattle.causal_node.specs.NodeStates.{NodeState, floor_of}
use Rattle.causal_nodes.specs.Packets.{Sent, message_packet, acknowledgement_packet, question_packet, answer_packet, not_up_packet, number_packet}
use Rattle.causal_calls.specs.Views.{numbers}
use Rattle.causal_calls.specs.Parcels.{message_with, acknowledgement_with, log_packet}
use Rattle.causal_endpoint.specs.Endpoints.{EndpointState, run_of}
use Rattle.causal_endpoint.specs.Items.{log_from}
use Rattle.causal_endpoint.specs.Receiving.{name_in, batch_in}

-- the packet of a parcel with this head; `at` is the position of a message's send entry
abbrev pub packet_with : ℕ → Head → Contents → Sent
packet_with at head (message ssn items body) = message_packet (name_in head ssn) (message_with head.lane head.dest at (name_in head ssn) (batch_in head items))
packet_with at head (acknowledgement items) = acknowledgement_packet (acknowledgement_with head.source head.lane head.dest (batch_in head items))
packet_with at head (question round view) = question_packet head.source.0 round (numbers view)
packet_with at head (answer round entries) = answer_packet round (log_packet head.source.0 head.lane head.dest.0 (log_from head.source entries))
packet_with at head (own_number round) = number_packet head.source.0 head.lane
packet_with at head (not_up round) = not_up_packet head.source.0 head.dest.0 round

abbrev pub packet_of : ℕ → Head × Contents → Sent
packet_of at p = packet_with at p.0 p.1

-- what a node takes if it is said that a process, whose next lane this is, is not up: that, or another number than it
-- has for the process
abbrev pub not_up_for : NodeState → Pid → ℕ → ℕ → Sent
not_up_for n q number round = if floor_of n.floors q == number then not_up_packet q.0 n.identity.me.0 round else number_packet q.0 number

-- what a node takes with a parcel
abbrev pub taken_with : NodeState → ℕ → Head → Contents → Sent
taken_with n at head (not_up round) = not_up_for n head.source head.lane round
taken_with n at head other = packet_with at head other

-- the entry at this position is the send of a message of this name by its source, in this lane
pub record IsSendOf (past : List Entry) (at number : ℕ) (name : MsgName) : Type 0 where
  pub message : message_at past at ≡ Some name
  pub in_lane : lane_of (instant past at) name.source.0 ≡ number

-- `at` is the position of the send entry of what a parcel brings, if it brings a message
abbrev pub IsSendWith : List Entry → ℕ → Head → Contents → Type 0
IsSendWith past at head (message ssn items body) = IsSendOf past at head.lane (name_in head ssn)
IsSendWith past at head other = Unit {0}

-- these bytes are a parcel from this endpoint, in its lane, and its packet is this
pub record Says (e : EndpointState) (at : ℕ) (b : List ℕ) (k : Sent) : Type 0 where
  pub parcel : Head × Contents
  pub of_run : IsParcel (run_of e) parcel
  pub written : b ≡ parcel_bytes (run_of e) parcel
  pub packet : packet_of at parcel ≡ k
  pub source : parcel.0.source ≡ e.node.identity.me
  pub in_lane : parcel.0.lane ≡ e.node.lane
