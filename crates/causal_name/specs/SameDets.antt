-- Equality of determinants as an equivalence relation.
use Rattle.std.specs.Cmp.{IsEquivalence, nat_eq_equiv, on_equiv, and_equiv}
use Rattle.causal_name.specs.Names.{same_det}

-- `==` is reflexive, symmetric and transitive
pub same_det_equiv : IsEquivalence same_det
same_det_equiv =
    and_equiv (on_equiv (λ d. d.source.0) nat_eq_equiv)
    (and_equiv (on_equiv (λ d. d.ssn) nat_eq_equiv) (and_equiv (on_equiv (λ d. d.dest.0) nat_eq_equiv) (on_equiv (λ d. d.rsn) nat_eq_equiv)))
