-- What follows if an endpoint does not refuse a call.
use Rattle.std.proofs.Common.{ℕ, ◌≡◌, ◌<◌, ◌^◌, Bool, false, Option, Some, None, refl, arith}
use Rattle.std.specs.Prelude.{nat_le}
use Rattle.std.proofs.lemmas.Bool.{or_parts}
use Rattle.causal_name.specs.declared.Pid.{Pid}
use Rattle.causal_node.specs.declared.node_fault.NodeFault.{NodeFault}
use Rattle.causal_node.specs.NodeStates.{NodeState, Recovery, RoundState}
use Rattle.causal_node.specs.NodeRefusals.{node_send_fault as node_send_fault}
use Rattle.causal_node.specs.NodeAcknowledgements.{node_acknowledge_fault as node_acknowledge_fault}
use Rattle.causal_node.specs.NodeRounds.{unless_gathering, node_question_fault as node_question_fault}
use Rattle.causal_endpoint.specs.declared.fault.EndpointFault.{EndpointFault}
use Rattle.causal_endpoint.specs.Refusals.{or_else, node_or, clock_fault}
use Rattle.causal_calls.proofs.Lemmas.Refusals as node
use Rattle.causal_calls.proofs.Lemmas.Refusals.{below_from, some_none}

pub or_else_none : (test : Bool) (fault : EndpointFault) (rest : Option EndpointFault) → or_else test fault rest ≡ None → (test ≡ false) × (rest ≡ None)
or_else_none test fault rest h = grind arith

pub node_or_none : (o : Option NodeFault) (rest : Option EndpointFault) → node_or o rest ≡ None → (o ≡ None) × (rest ≡ None)
node_or_none o rest h = grind arith

pub not_at : (a b : ℕ) → nat_le a b ≡ false → b < a
not_at a b h = grind (arith, h)

pub clock_below : (clock : ℕ) → clock_fault clock ≡ None → clock < 2 ^ 62
clock_below clock h = not_at (2 ^ 62) clock (or_else_none _ _ None h).0

-- a message is sent, or an acknowledgement, to a process
pub sent_to : (n : NodeState) (to : Pid) → node_send_fault n to ≡ None → to.0 < n.identity.processes
sent_to n to h = below_from to.0 n.identity.processes (node.or_else_none _ _ _ (node.unless_up_none _ _ h).1).0

pub said_to : (n : NodeState) (to : Pid) → node_acknowledge_fault n to ≡ None → to.0 < n.identity.processes
said_to n to h = below_from to.0 n.identity.processes (node.or_else_none _ _ _ (node.unless_up_none _ _ h).1).0

-- a question is asked in a round, of a process
gathering : (o : Recovery) (rest : Option NodeFault) → unless_gathering o rest ≡ None → (r : RoundState) × (o ≡ Some (Some r)) × (rest ≡ None)
gathering (Some (Some r)) rest h = (r, refl, h)
gathering _ rest h = absurd (some_none _ h)

pub asked_in : (n : NodeState) (to : Pid) → node_question_fault n to ≡ None → (r : RoundState) × (n.recovery ≡ Some (Some r)) × (to.0 < n.identity.processes)
asked_in n to h =
    let there = gathering n.recovery _ h in
    (there.0, there.1, not_at n.identity.processes to.0 (or_parts _ _ (node.or_else_none _ _ None there.2).0).0)
