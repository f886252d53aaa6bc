-- The numbers of deliveries, by determinant.
use Rattle.std.proofs.Common.{ℕ, ◌≡◌, ◌<◌, ◌≤◌, inl, inr, Bool, true, cond, List, [], ◌∷◌, length, Option, Some, None, refl, subst, arith}
use Rattle.std.specs.Prelude.{◌⊎◌, ◌&&◌, nat_lt, IfSome}
use Rattle.std.proofs.lemmas.Bool.{and_parts}
use Rattle.std.specs.Option.{is_some}
use Rattle.causal_name.specs.declared.Det.{Det}
use Rattle.causal_name.specs.Names.{same_det}
use Rattle.causal_name.proofs.Lemmas.DetOrder.{same_is}
use Rattle.causal_trace.specs.declared.entry.Entry.{Entry}
use Rattle.causal_trace.specs.Past.{deliveries_in, is_delivered}
use Rattle.causal_trace.specs.Numbers.{delivered_dets, number_of}

-- a number is below the number of deliveries
pub number_below : (n : ℕ) (dets : List Det) (d : Det) → IfSome (number_of n dets d) (λ i. i < length dets)
number_below n [] d = tt
number_below n (det ∷ older) d = grind (arith, number_below n older d)

-- a number is below the bound m
pub number_among : (n : ℕ) (dets : List Det) (d : Det) → IfSome (number_of n dets d) (λ i. i < n)
number_among n [] d = tt
number_among n (det ∷ older) d = grind (arith, number_among n older d)

-- a number that is found is below the bound
pub found_below : (o : Option ℕ) (n m : ℕ) → IfSome o (λ i. i < n) → o ≡ Some m → m < n
found_below o n m all is = subst (λ x. IfSome x (λ i. i < n)) is all

-- two lookups that find one number both find the newest, or both an older one
found_alike : (p q : Bool) (a b : Option ℕ) (i m : ℕ) → IfSome a (λ k. k < i) → IfSome b (λ k. k < i) → cond p (Some i) a ≡ Some m → cond q (Some i) b ≡ Some m → ((p ≡ true) × (q ≡ true)) ⊎ ((a ≡ Some m) × (b ≡ Some m))
found_alike p q a b i m low high at to = grind arith

-- only one determinant has each number
pub numbers_apart : (n : ℕ) (numbers : List Det) (c d : Det) (m : ℕ) → number_of n numbers c ≡ Some m → number_of n numbers d ≡ Some m → same_det c d ≡ true
numbers_apart n [] c d m at to = absurd (let x : None ≡ Some m = at in cc)
numbers_apart n (x ∷ older) c d m at to =
    elim (found_alike (nat_lt (length older) n && same_det x c) (nat_lt (length older) n && same_det x d) _ _ _ m (number_below n older c) (number_below n older d) at to) [
      | inl h ↦ subst (λ y. same_det y d ≡ true) (same_is x c (and_parts (nat_lt (length older) n) (same_det x c) h.0).1) (and_parts (nat_lt (length older) n) (same_det x d) h.1).1
      | inr h ↦ numbers_apart n older c d m h.0 h.1
    ]

-- over all deliveries, exactly the determinants of deliveries have a number
pub delivered_numbered : (n : ℕ) (past : List Entry) (d : Det) → length (delivered_dets past) ≤ n → is_delivered past d ≡ is_some (number_of n (delivered_dets past) d)
delivered_numbered n [] d all = refl
delivered_numbered n (e ∷ past) d all = grind (arith, delivered_numbered n past d)

-- there are at most as many determinants as deliveries
pub listed_once : (past : List Entry) → length (delivered_dets past) ≤ deliveries_in past
listed_once [] = omega arith
listed_once (e ∷ past) = grind (arith, listed_once past)
