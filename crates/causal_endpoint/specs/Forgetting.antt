-- An endpoint forgets what is known to be stable.
use Rattle.std.specs.Prelude.{◌≡◌, ℕ, Option}
use Rattle.causal_log.specs.Logs.{forgotten_in}
use Rattle.causal_node.specs.NodeForgetting.{next_slot, node_forget_fault as node_forget_fault, node_after_forget as node_after_forget}
use Rattle.causal_endpoint.specs.declared.fault.EndpointFault.{EndpointFault}
use Rattle.causal_endpoint.specs.declared.forgetting.Forgotten.{Forgotten}
use Rattle.causal_endpoint.specs.Endpoints.{EndpointState, next_clock, with_node}
use Rattle.causal_endpoint.specs.Refusals.{node_or, clock_fault}

-- the first refusal that applies to a forgetting, and the endpoint after it
abbrev pub forget_fault : EndpointState → ℕ → Option EndpointFault
forget_fault e now = node_or (node_forget_fault e.node) (clock_fault (next_clock now e.clock))

abbrev pub endpoint_after_forget : EndpointState → ℕ → EndpointState
endpoint_after_forget e now = with_node e (node_after_forget e.node) (next_clock now e.clock)

-- the clock, and what the forget entry lists
pub record IsForgotten (e : EndpointState) (now : ℕ) (g : Forgotten) : Type 0 where
  pub clock : g.clock ≡ next_clock now e.clock
  pub listed : g.listed.items ≡ forgotten_in (next_slot e.node) e.node.memory.log
