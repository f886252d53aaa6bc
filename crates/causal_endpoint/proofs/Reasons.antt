-- The reasons that faults of the node mean.
use Rattle.std.proofs.Common.{◌≡◌, refl, ap, Option, Some}
use Rattle.causal_node.specs.declared.node_fault.NodeFault.{NodeFault}
use Rattle.causal_node.specs.declared.node_fault.NodeFault.TheVariants as N
use Rattle.causal_node.specs.NodeRefusals.{node_reason_of}
use Rattle.causal_endpoint.specs.declared.fault.EndpointFault.{EndpointFault}
use Rattle.causal_endpoint.specs.declared.fault.EndpointFault.TheVariants as Faults
use Rattle.causal_endpoint.specs.Refusals.{node_or, IsNodeReason}

-- a fault is the reason that it means, unless it means none
reason_is : (fault : NodeFault) (reason : Option EndpointFault) → (node_reason_of fault ≡ Some fault → reason ≡ Some (Faults.Node fault)) → IsNodeReason fault reason
reason_is N.NoMemory reason is = tt
reason_is N.NoProcess reason is = is refl
reason_is N.NotUp reason is = is refl
reason_is N.Up reason is = is refl
reason_is N.NoRound reason is = is refl
reason_is N.Unasked reason is = is refl
reason_is N.OldLane reason is = is refl
reason_is N.Duplicate reason is = is refl
reason_is (N.MustReplay m) reason is = is refl
reason_is N.Reserved reason is = is refl
reason_is N.View reason is = is refl
reason_is N.NotYet reason is = is refl
reason_is N.Waiting reason is = is refl
reason_is N.Full reason is = is refl

-- a fault of the node is its reason, whatever follows
pub reason_first : (fault : NodeFault) (rest : Option EndpointFault) → IsNodeReason fault (node_or (node_reason_of fault) rest)
reason_first fault rest = reason_is fault _ (λ is. ap (λ r. node_or r rest) is)

-- a fault that is found is its reason
pub reason_found : (fault : NodeFault) → IsNodeReason fault (Some (Faults.Node fault))
reason_found fault = reason_is fault _ (λ is. refl)
