-- The ghost fields of an indexed trace and of a scan have at most one proof each.
use Rattle.std.specs.Prelude.{◌≡◌, ℕ, Bool, true, List, [], ◌∷◌, Option, Some}
use Rattle.causal_audit.specs.Inside.Common.{Det, Entry}
use Rattle.std.specs.Coded.{Unit-prop, codes}
use Rattle.std.proofs.Props.{props}
use Rattle.std.proofs.Common.{sym, subst, ◌∙◌}
use Rattle.std.proofs.Math.Bool.{Bool-set}
use Rattle.causal_audit.specs.declared.index.transitions.Transitions.{Transitions}
use Rattle.causal_audit.specs.Inside.PositionLists.{AreMentionsOf}
use Rattle.causal_audit.specs.Inside.Index.RunIndexes.{IsTransitionIndex}
use Rattle.causal_audit.specs.NoRelease.{NoneReleasedFrom}

-- `NoneReleasedFrom` is a proposition
NoneReleasedFrom-prop : (past : List Entry) (t : ℕ) → IsProp (NoneReleasedFrom past t)
NoneReleasedFrom-prop [] t = Unit-prop
NoneReleasedFrom-prop (e ∷ past) t = Prim.hlevel (props, NoneReleasedFrom-prop past t)

-- the existence of an entry with a property is a proposition
one_entry : (o : Option Entry) (f : Entry → Bool) → IsProp ((e : Entry) × (o ≡ Some e) × (f e ≡ true))
one_entry o f x y =
    let both : Some x.0 ≡ Some y.0 = sym x.1 ∙ y.1 in
    let one : x.0 ≡ y.0 = cc both in
    subst (λ e. (p : o ≡ Some e) (q : f e ≡ true) → x ≡ (e, p, q)) one
    (λ p q i. (x.0, options_set o (Some x.0) x.1 p i, Bool-set (f x.0) true x.2 q i)) y.1 y.2
  where
    options_set : IsSet (Option Entry)
    options_set = Prim.hlevel (props, codes)

-- `IsTransitionIndex` is a proposition
pub IsTransitionIndex-prop : (past : List Entry) (transitions : Transitions) → IsProp (IsTransitionIndex past transitions)
IsTransitionIndex-prop past transitions = Prim.hlevel (props, one_entry, NoneReleasedFrom-prop past transitions.no_release_from)

-- `AreMentionsOf` is a proposition
pub AreMentionsOf-prop : (past : List Entry) (d : Det) (list : List ℕ) → IsProp (AreMentionsOf past d list)
AreMentionsOf-prop past d list = Prim.hlevel (props, one_entry)
