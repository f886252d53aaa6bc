-- What follows if a node does not refuse a call.
use Rattle.std.proofs.Common.{ℕ, ◌≡◌, ◌==◌, ◌<◌, ◌≤◌, Bool, true, false, not, Option, Some, None, is_some, refl, ap, arith, true≢false}
use Rattle.std.specs.Prelude.{nat_lt}
use Rattle.std.specs.FinSet as set
use Rattle.std.proofs.lemmas.Bool.{and_parts, eqb-true, not-false}
use Rattle.causal_name.specs.declared.Pid.{Pid}
use Rattle.causal_node.specs.declared.node_fault.NodeFault.{NodeFault}
use Rattle.causal_node.specs.NodeStates.{Recovery, RoundState}
use Rattle.causal_node.specs.NodeRefusals.{unless_up, or_else}
use Rattle.causal_node.specs.NodeRecovery.{reply_fault}

pub some_none : {X : Type 0} (x : X) → Some x ≡ None → ⊥
some_none x h = true≢false (ap is_some h)

-- none of the faults applies
pub or_else_none : (test : Bool) (fault : NodeFault) (rest : Option NodeFault) → or_else test fault rest ≡ None → (test ≡ false) × (rest ≡ None)
or_else_none test fault rest h = grind arith

pub unless_up_none : (o : Recovery) (rest : Option NodeFault) → unless_up o rest ≡ None → (o ≡ None) × (rest ≡ None)
unless_up_none o rest h = grind arith

-- a reply that is taken is one to the present round
pub of_round : (o : Recovery) (name : ℕ) (q : Pid) → reply_fault o name q ≡ None → (r : RoundState) × (o ≡ Some (Some r)) × (r.name ≡ name) × (set.contains r.awaited q.0 ≡ true)
of_round (Some (Some r)) name q h =
    let both = and_parts (r.name == name) (set.contains r.awaited q.0) (not-false _ (or_else_none _ _ None h).0) in
    (r, refl, eqb-true r.name name both.0, both.1)
of_round _ name q h = absurd (some_none _ h)

-- numbers
pub below_from : (a b : ℕ) → not (nat_lt a b) ≡ false → a < b
below_from a b h = grind (arith, h)

pub not_below : (a b : ℕ) → nat_lt a b ≡ false → b ≤ a
not_below a b h = grind (arith, h)
