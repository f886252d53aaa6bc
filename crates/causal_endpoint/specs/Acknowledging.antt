-- An acknowledgement that an endpoint sends: who is known to hold the determinants that it acknowledges.
use Rattle.std.specs.Prelude.{ℕ, ◌^◌, nat_le, is_some, List, map, filter, Option}
use Rattle.std.specs.FinMap as fin
use Rattle.std.specs.FinSet as set
use Rattle.causal_name.specs.declared.Pid.{Pid}
use Rattle.causal_name.specs.declared.Det.{Det}
use Rattle.causal_log.specs.Logs.{LogMap, known_of}
use Rattle.causal_wire.specs.declared.parcel.Head.{Head}
use Rattle.causal_wire.specs.declared.parcel.ParcelItem.{ParcelItem}
use Rattle.causal_wire.specs.Parcels.{Contents, acknowledgement}
use Rattle.causal_node.specs.NodeAcknowledgements.{node_acknowledge_fault as node_acknowledge_fault}
use Rattle.causal_endpoint.specs.declared.fault.EndpointFault.{EndpointFault}
use Rattle.causal_endpoint.specs.declared.fault.EndpointFault.TheVariants as Faults
use Rattle.causal_endpoint.specs.Endpoints.{EndpointState, head_to, next_clock}
use Rattle.causal_endpoint.specs.Refusals.{or_else, node_or, clock_fault}

-- what a process says of a determinant that it logs: its known holders besides the process
abbrev pub acknowledged_item : Pid → LogMap → Det → ParcelItem
acknowledged_item me log det = record { det = det; others = set.remove (known_of log det).holders me.0 }

-- the items of those of these determinants that are logged
abbrev pub acknowledged_items : Pid → LogMap → List Det → List ParcelItem
acknowledged_items me log dets = map (acknowledged_item me log) (filter (λ det. is_some (fin.get log det)) dets)

-- the acknowledgement of these determinants to a process, at this clock
abbrev pub acknowledgement_to : EndpointState → Pid → List Det → ℕ → Head × Contents
acknowledgement_to e to dets clock = (head_to e to clock, acknowledgement (acknowledged_items e.node.identity.me e.node.memory.log dets))

-- the first refusal that applies to an acknowledgement of this many determinants
abbrev pub acknowledge_fault : EndpointState → ℕ → Pid → ℕ → Option EndpointFault
acknowledge_fault e now to count =
    node_or (node_acknowledge_fault e.node to)
    (or_else (nat_le (2 ^ 32) count) Faults.Long
    (clock_fault (next_clock now e.clock)))
