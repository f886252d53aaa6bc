-- A message that an endpoint sends, and its bytes.
use Rattle.std.specs.Prelude.{◌≡◌, ℕ, ◌^◌, nat_le, List, length, map, Option}
use Rattle.causal_name.specs.declared.Pid.{Pid}
use Rattle.causal_log.specs.Logs.{batch_items}
use Rattle.causal_wire.specs.declared.parcel.Head.{Head}
use Rattle.causal_wire.specs.declared.parcel.ParcelItem.{ParcelItem}
use Rattle.causal_wire.specs.Parcels.{Contents, message}
use Rattle.causal_wire.specs.Bytes.{parcel_bytes}
use Rattle.causal_node.specs.NodeRefusals.{node_send_fault as node_send_fault}
use Rattle.causal_node.specs.NodeSteps.{node_after_send as node_after_send}
use Rattle.causal_endpoint.specs.declared.fault.EndpointFault.{EndpointFault}
use Rattle.causal_endpoint.specs.declared.fault.EndpointFault.TheVariants as Faults
use Rattle.causal_endpoint.specs.declared.sending.SendRecord.{SendRecord}
use Rattle.causal_endpoint.specs.Endpoints.{EndpointState, run_of, head_to, next_clock, with_node}
use Rattle.causal_endpoint.specs.Items.{wire_item}
use Rattle.causal_endpoint.specs.Refusals.{or_else, node_or, clock_fault}

-- what a message carries now: what the log chooses for the bound on failures
abbrev pub carried_items : EndpointState → List ParcelItem
carried_items e = map (wire_item e.node.identity.me) (batch_items e.node.identity.faults e.node.memory.log)

-- the next message, to this process with this body, at this clock
abbrev pub next_message : EndpointState → Pid → List ℕ → ℕ → Head × Contents
next_message e to body clock = (head_to e to clock, message (length e.node.memory.sent) (carried_items e) body)

-- the first refusal that applies to a send of a body of this length
abbrev pub send_fault : EndpointState → ℕ → Pid → ℕ → Option EndpointFault
send_fault e now to len =
    node_or (node_send_fault e.node to)
    (or_else (nat_le (2 ^ 32) len) Faults.Long
    (clock_fault (next_clock now e.clock)))

-- the endpoint after it has sent a message
abbrev pub after_send : EndpointState → ℕ → Pid → List ℕ → EndpointState
after_send e now to body = with_node e (node_after_send e.node to body) (next_clock now e.clock)

-- the number, the clock and the bytes of the message that is sent
pub record IsSent (e : EndpointState) (now : ℕ) (to : Pid) (body : List ℕ) (s : SendRecord) : Type 0 where
  pub ssn : s.ssn ≡ length e.node.memory.sent
  pub clock : s.clock ≡ next_clock now e.clock
  pub bytes : s.bytes.items ≡ parcel_bytes (run_of e) (next_message e to body (next_clock now e.clock))
