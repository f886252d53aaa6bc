-- A step of the node in a handle, from the box that was taken to the box that was put back.
use Rattle.std.proofs.Common.{◌≡◌, Option, Some, sym, subst}
use Rattle.nixu_node.specs.declared.open_node.OpenNode.{OpenNode}
use Rattle.nixu_node.specs.OpenNodes.{OfNode}

pub step_in : (Has : OpenNode → OpenNode → Type 0) {old new : Option OpenNode} {taken o next : OpenNode} → Some o ≡ old → new ≡ Some next → taken ≡ o → Has taken next → OfNode old (λ o. OfNode new (Has o))
step_in Has {old} {new} {taken} {o} {next} given filled same has =
    subst (λ x. OfNode x (λ o. OfNode new (Has o))) given (subst (λ y. OfNode y (Has o)) (sym filled) (subst (λ t. Has t next) same has))
