-- Why an endpoint refuses a call: the first of its rows of faults that applies.
use Rattle.std.specs.Prelude.{◌≡◌, ℕ, Bool, ◌^◌, nat_le, Option, Some, None, if◌then◌else◌}
use Rattle.std.specs.Option.{option_map}
use Rattle.causal_node.specs.declared.node_fault.NodeFault.{NodeFault}
use Rattle.causal_node.specs.declared.node_fault.NodeFault.TheVariants as NodeFaults
use Rattle.causal_node.specs.NodeRefusals.{node_reason_of}
use Rattle.causal_endpoint.specs.declared.fault.EndpointFault.{EndpointFault}
use Rattle.causal_endpoint.specs.declared.fault.EndpointFault.TheVariants as Faults

-- this fault if the test holds, else what follows
abbrev pub or_else : Bool → EndpointFault → Option EndpointFault → Option EndpointFault
or_else test fault rest = if test then Some fault else rest

-- the refusal of the node, else what follows
abbrev pub node_or : Option NodeFault → Option EndpointFault → Option EndpointFault
node_or (Some fault) rest = Some (Faults.Node fault)
node_or None rest = rest

-- clocks of parcels are below 2^62
abbrev pub clock_fault : ℕ → Option EndpointFault
clock_fault clock = or_else (nat_le (2 ^ 62) clock) Faults.Clock None

-- the refusal that a fault means: none for `NoMemory`, which requires that none applies
abbrev pub endpoint_reason_of : EndpointFault → Option EndpointFault
endpoint_reason_of (Faults.Node fault) = option_map Faults.Node (node_reason_of fault)
endpoint_reason_of fault = Some fault

abbrev pub IsNodeReason : NodeFault → Option EndpointFault → Type 0
IsNodeReason NodeFaults.NoMemory reason = Unit {0}
IsNodeReason fault reason = reason ≡ Some (Faults.Node fault)

-- a fault is this reason, unless it is out of memory
abbrev pub IsReason : EndpointFault → Option EndpointFault → Type 0
IsReason (Faults.Node fault) reason = IsNodeReason fault reason
IsReason fault reason = reason ≡ Some fault
