-- A refusal with a number is its own reason; without one it is `NoMemory`, which has none.
use Rattle.std.proofs.Common.{◌≡◌, refl, Some, None, arith}
use Rattle.causal_wire.specs.declared.fault.WireFault.TheVariants as W
use Rattle.causal_node.specs.declared.node_fault.NodeFault.TheVariants as N
use Rattle.causal_endpoint.specs.declared.fault.EndpointFault.{EndpointFault}
use Rattle.causal_endpoint.specs.declared.fault.EndpointFault.TheVariants as E
use Rattle.causal_endpoint.specs.Refusals.{endpoint_reason_of}
use Rattle.nixu_node.specs.Refusals.{refusal_number}

-- `NoMemory` alone has no number
pub reason_named : (fault : EndpointFault) → (refusal_number fault ≡ 0 → ⊥) → endpoint_reason_of fault ≡ Some fault
reason_named E.NotMine h = refl
reason_named E.OwnParcel h = refl
reason_named E.Long h = refl
reason_named E.Clock h = refl
reason_named (E.Wire fault) h = refl
reason_named (E.Node N.NoProcess) h = refl
reason_named (E.Node N.NotUp) h = refl
reason_named (E.Node N.Up) h = refl
reason_named (E.Node N.NoRound) h = refl
reason_named (E.Node N.Unasked) h = refl
reason_named (E.Node N.OldLane) h = refl
reason_named (E.Node N.Duplicate) h = refl
reason_named (E.Node (N.MustReplay m)) h = refl
reason_named (E.Node N.Reserved) h = refl
reason_named (E.Node N.View) h = refl
reason_named (E.Node N.NotYet) h = refl
reason_named (E.Node N.Waiting) h = refl
reason_named (E.Node N.Full) h = refl
reason_named (E.Node N.NoMemory) h = absurd (h refl)

pub reason_unnamed : (fault : EndpointFault) → refusal_number fault ≡ 0 → endpoint_reason_of fault ≡ None
reason_unnamed (E.Node N.NoMemory) h = refl
reason_unnamed E.NotMine h = absurd (omega (arith, h))
reason_unnamed E.OwnParcel h = absurd (omega (arith, h))
reason_unnamed E.Long h = absurd (omega (arith, h))
reason_unnamed E.Clock h = absurd (omega (arith, h))
reason_unnamed (E.Wire W.Short) h = absurd (omega (arith, h))
reason_unnamed (E.Wire W.Version) h = absurd (omega (arith, h))
reason_unnamed (E.Wire W.Kind) h = absurd (omega (arith, h))
reason_unnamed (E.Wire W.Run) h = absurd (omega (arith, h))
reason_unnamed (E.Wire W.Process) h = absurd (omega (arith, h))
reason_unnamed (E.Wire W.Clock) h = absurd (omega (arith, h))
reason_unnamed (E.Wire W.Unsorted) h = absurd (omega (arith, h))
reason_unnamed (E.Wire W.Holder) h = absurd (omega (arith, h))
reason_unnamed (E.Wire W.Flag) h = absurd (omega (arith, h))
reason_unnamed (E.Wire W.Trailing) h = absurd (omega (arith, h))
reason_unnamed (E.Node N.NoProcess) h = absurd (omega (arith, h))
reason_unnamed (E.Node N.NotUp) h = absurd (omega (arith, h))
reason_unnamed (E.Node N.Up) h = absurd (omega (arith, h))
reason_unnamed (E.Node N.NoRound) h = absurd (omega (arith, h))
reason_unnamed (E.Node N.Unasked) h = absurd (omega (arith, h))
reason_unnamed (E.Node N.OldLane) h = absurd (omega (arith, h))
reason_unnamed (E.Node N.Duplicate) h = absurd (omega (arith, h))
reason_unnamed (E.Node (N.MustReplay m)) h = absurd (omega (arith, h))
reason_unnamed (E.Node N.Reserved) h = absurd (omega (arith, h))
reason_unnamed (E.Node N.View) h = absurd (omega (arith, h))
reason_unnamed (E.Node N.NotYet) h = absurd (omega (arith, h))
reason_unnamed (E.Node N.Waiting) h = absurd (omega (arith, h))
reason_unnamed (E.Node N.Full) h = absurd (omega (arith, h))
