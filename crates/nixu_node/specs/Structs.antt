-- Identities, and what calls return, in C's layout.
use Rattle.std.specs.Prelude.{ℕ, not, nat_lt, length, Option, Some, None, unwrap_or, if◌then◌else◌}
use Rattle.std.specs.FinMap as fin
use Rattle.std.specs.FinSet as set
use Rattle.causal_name.specs.declared.Pid.{Pid}
use Rattle.causal_name.specs.declared.MsgName.{MsgName}
use Rattle.causal_node.specs.declared.node.Identity.{Identity}
use Rattle.causal_node.specs.NodeRounds.{round_name}
use Rattle.causal_node.specs.NodeStates.{Recovery}
use Rattle.causal_endpoint.specs.declared.receiving.Received.{Received}
use Rattle.causal_endpoint.specs.declared.receiving.Received.TheVariants as Receiveds
use Rattle.causal_endpoint.specs.declared.receiving.DeliveryRecord.{DeliveryRecord}
use Rattle.causal_endpoint.specs.declared.sending.SendRecord.{SendRecord}
use Rattle.causal_endpoint.specs.Endpoints.{EndpointState}
use Rattle.nixu_node.specs.declared.c_node.CIdentity.{CIdentity}
use Rattle.nixu_node.specs.declared.c_node.CMessage.{CMessage}
use Rattle.nixu_node.specs.declared.c_node.CReceived.{CReceived}
use Rattle.nixu_node.specs.declared.c_node.CSent.{CSent}
use Rattle.nixu_node.specs.declared.inspection.CState.{CState}

-- the process with this number
abbrev pub pid : ℕ → Pid
pid p = record { 0 = p }

abbrev pub identity_from_c : CIdentity → Identity
identity_from_c i = record { processes = i.processes; me = pid i.process; faults = i.faults }

abbrev pub c_sent_of : SendRecord → CSent
c_sent_of s = record { clock = s.clock; parcel = length s.bytes.items; ssn = s.ssn }

-- a parcel of this kind from a process
abbrev pub c_kind : ℕ → Pid → CReceived
c_kind kind source = record { clock = 0; body = 0; parcel = 0; listed = 0; kind = kind; ssn = 0; rsn = 0; lane = 0; source = source.0 }

abbrev pub c_delivered : DeliveryRecord → CReceived
c_delivered d = record {
  clock = d.clock;
  body = length d.body.items;
  parcel = 0;
  listed = length d.listed;
  kind = 0;
  ssn = d.name.ssn;
  rsn = d.det.rsn;
  lane = d.lane;
  source = d.name.source.0;
}

-- what was received, by its kind
abbrev pub c_received_of : Received → CReceived
c_received_of (Receiveds.Message d) = c_delivered d
c_received_of (Receiveds.Acknowledgement source) = c_kind 1 source
c_received_of (Receiveds.Question source reply) = record (c_kind 2 source) { parcel = length reply.items }
c_received_of (Receiveds.Log source) = c_kind 3 source
c_received_of (Receiveds.Number source) = c_kind 4 source
c_received_of (Receiveds.NotUp source) = c_kind 5 source

abbrev pub c_message_of : Option MsgName → CMessage
c_message_of (Some m) = record { ssn = m.ssn; exists = 1; source = m.source.0 }
c_message_of None = record { ssn = 0; exists = 0; source = 0 }

-- 0 up, 1 no round has begun, 2 processes have still to reply, 3 stable storage has to be read, 4 it can restart
abbrev pub stage_of : Recovery → ℕ
stage_of None = 0
stage_of (Some None) = 1
stage_of (Some (Some r)) = if nat_lt 0 (set.len r.awaited) then 2 else if not r.read then 3 else 4

abbrev pub c_state_of : EndpointState → CState
c_state_of e = record {
  clock = e.clock;
  round = unwrap_or (round_name e.node.recovery) 0;
  stage = stage_of e.node.recovery;
  lane = e.node.lane;
  logged = fin.len e.node.memory.log;
  sent = length e.node.memory.sent;
  received = length e.node.memory.received;
}
