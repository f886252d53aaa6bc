-- The order of determinants is total, and `==` agrees with it. The crates above cite these lemmas.
use Rattle.std.proofs.Common.{◌≡◌, ◌∙◌, ℕ, Bool, true, ◌&&◌, nat_eq, sym, ap, arith}
use Rattle.std.specs.declared.cmp.Ordering.{Ordering}
use Rattle.std.specs.declared.cmp.Ordering.TheVariants.{Less, Equal, Greater}
use Rattle.std.specs.Ordering.{nat_cmp, ordering_then, is_eq, eq_by_cmp}
use Rattle.std.specs.Cmp.{Equal-is, tied_itself, IsTotalOrder, nat_cmp_total}
use Rattle.std.proofs.lemmas.Bool.Decides.{nat_tests}
use Rattle.std.proofs.lemmas.Cmp.{on_total, then_total}
use Rattle.std.proofs.lemmas.Map.Lookups.{CmpEqualImpliesEq, exact_pairs, exact_unsigned}
use Rattle.causal_name.specs.declared.Det.{Det}
use Rattle.causal_name.specs.Names.{det_cmp, same_det}

-- the order of determinants is total
pub dets_total : IsTotalOrder det_cmp
dets_total =
    then_total (on_total (λ d. d.source.0) nat_cmp_total)
    (then_total (on_total (λ d. d.ssn) nat_cmp_total) (then_total (on_total (λ d. d.dest.0) nat_cmp_total) (on_total (λ d. d.rsn) nat_cmp_total)))

-- determinants that compare as equal are equal
pub exact_dets : CmpEqualImpliesEq det_cmp
exact_dets a b h =
    ap (λ (p : ℕ × (ℕ × (ℕ × ℕ))). record { source = record { 0 = p.0 }; ssn = p.1.0; dest = record { 0 = p.1.1.0 }; rsn = p.1.1.1 })
    (exact_pairs nat_cmp (λ x y. ordering_then (nat_cmp x.0 y.0) (ordering_then (nat_cmp x.1.0 y.1.0) (nat_cmp x.1.1 y.1.1))) exact_unsigned
    (exact_pairs nat_cmp (λ x y. ordering_then (nat_cmp x.0 y.0) (nat_cmp x.1 y.1)) exact_unsigned (exact_pairs nat_cmp nat_cmp exact_unsigned exact_unsigned))
    (a.source.0, (a.ssn, (a.dest.0, a.rsn))) (b.source.0, (b.ssn, (b.dest.0, b.rsn))) h)

-- two numbers are equal if and only if they compare as equal
pub nat_ties : (x y : ℕ) → nat_eq x y ≡ is_eq (nat_cmp x y)
nat_ties x y = grind (arith, nat_tests)

then_ties : (r s : Ordering) (p q : Bool) → p ≡ is_eq r → q ≡ is_eq s → (p && q) ≡ is_eq (ordering_then r s)
then_ties Less s p q e f = ap (λ b. b && q) e
then_ties Equal s p q e f = ap (λ b. b && q) e ∙ f
then_ties Greater s p q e f = ap (λ b. b && q) e

number_ties : (x y : ℕ) (s : Ordering) (q : Bool) → q ≡ is_eq s → (nat_eq x y && q) ≡ is_eq (ordering_then (nat_cmp x y) s)
number_ties x y s q h = then_ties (nat_cmp x y) s (nat_eq x y) q (nat_ties x y) h

-- two determinants are `==` if and only if they compare as equal
pub det_ties : (x y : Det) → same_det x y ≡ eq_by_cmp det_cmp x y
det_ties x y =
    number_ties x.source.0 y.source.0 (ordering_then (nat_cmp x.ssn y.ssn) (ordering_then (nat_cmp x.dest.0 y.dest.0) (nat_cmp x.rsn y.rsn))) _
    (number_ties x.ssn y.ssn (ordering_then (nat_cmp x.dest.0 y.dest.0) (nat_cmp x.rsn y.rsn)) _
    (number_ties x.dest.0 y.dest.0 (nat_cmp x.rsn y.rsn) _ (nat_ties x.rsn y.rsn)))

-- determinants that are `==` are equal
pub same_is : (x y : Det) → same_det x y ≡ true → x ≡ y
same_is x y h = exact_dets x y ((Equal-is (det_cmp x y)).0 (sym (det_ties x y) ∙ h))

-- a determinant is `==` to itself
pub same_itself : (x : Det) → same_det x x ≡ true
same_itself x = det_ties x x ∙ ap is_eq (tied_itself dets_total x)
