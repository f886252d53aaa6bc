-- The refusals of opening an endpoint.
use Rattle.std.specs.Prelude.{ℕ, ◌^◌, nat_le, Option, None}
use Rattle.causal_node.specs.declared.node.Identity.{Identity}
use Rattle.causal_node.specs.NodeRecovery.{node_open_fault as node_open_fault}
use Rattle.causal_endpoint.specs.declared.fault.EndpointFault.{EndpointFault}
use Rattle.causal_endpoint.specs.declared.fault.EndpointFault.TheVariants as Faults
use Rattle.causal_endpoint.specs.Refusals.{or_else, node_or}

-- the first refusal that applies to opening an endpoint at this clock
abbrev pub open_fault : Identity → ℕ → Option EndpointFault
open_fault who clock = or_else (nat_le (2 ^ 62) clock) Faults.Clock (node_or (node_open_fault who) None)
