-- The node that a handle owns.
use Rattle.std.specs.Prelude.{◌≡◌, ℕ, Option, Some, None, slice_get}
use Rattle.causal_protocol.specs.Memory.{SentMessage}
use Rattle.causal_node.specs.NodeRecovery.{opened_node}
use Rattle.nixu_node.specs.declared.c_node.CIdentity.{CIdentity}
use Rattle.nixu_node.specs.declared.open_node.OpenNode.{OpenNode}
use Rattle.nixu_node.specs.declared.open_node.Kept.TheVariants as Kepts
use Rattle.nixu_node.specs.Structs.{identity_from_c}

-- a node is open, and satisfies the predicate
abbrev pub OfNode : Option OpenNode → (OpenNode → Type 0) → Type 0
OfNode (Some o) IsTrue = IsTrue o
OfNode None IsTrue = ⊥

-- a node that was just opened
pub record IsOpened (i : CIdentity) (o : OpenNode) : Type 0 where
  pub endpoint : o.endpoint ≡ record { node = opened_node (identity_from_c i) i.lane; run = i.run; clock = i.clock }
  pub nothing : o.kept ≡ Kepts.Nothing

-- the message of this number was sent to this process
abbrev pub IsReceiver : OpenNode → ℕ → ℕ → Type 0
IsReceiver o ssn to = (m : SentMessage) × (slice_get o.endpoint.node.memory.sent ssn ≡ Some m) × (to ≡ m.to.0)
