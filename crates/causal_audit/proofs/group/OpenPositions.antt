-- Properties of all elements of a list and of its parts.
use Rattle.causal_audit.proofs.Common.{ℕ, ◌∷◌, ◌++◌, [], List, subst, arith, length-append, get_or_append_left, All, All-tail}
use Rattle.causal_audit.specs.declared.group.walk_input.OpenDelivery.{OpenDelivery}

abbrev pub zero : OpenDelivery
zero = record { position = 0; until = 0 }

abbrev pub position : OpenDelivery → ℕ
position delivery = delivery.position

-- a property of all elements holds in the first part
pub all_left : {A : Type 0} (P : A → Type 0) (xs ys : List A) → All P (xs ++ ys) → All P xs
all_left P xs ys all i d low = subst P (get_or_append_left xs ys d i low) (all i d (omega (arith, low, length-append xs ys)))

-- and in the second part
pub all_right : {A : Type 0} (P : A → Type 0) (xs ys : List A) → All P (xs ++ ys) → All P ys
all_right P [] ys all = all
all_right P (x ∷ xs) ys all = all_right P xs ys (All-tail P x (xs ++ ys) all)
