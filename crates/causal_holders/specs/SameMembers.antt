-- Equality of two sets by their members.
use Rattle.std.specs.Prelude.{◌≡◌, Bool, true, ◌&&◌}
use Rattle.std.proofs.Common.{ap, subst}
use Rattle.std.proofs.Math.Bool.{and_comm}
use Rattle.std.proofs.lemmas.Bool.{and_parts}
use Rattle.std.specs.Ordering.{nat_cmp}
use Rattle.std.specs.Cmp.{nat_cmp_total, IsPartialEquivalence, IsEquivalence, equiv, both_ways}
use Rattle.std.specs.FinSet.{FinSet, contains, is_subset, is_subset-contains, contains-is_subset, same_set, nat_cmp-IsAntisymmetric}

-- whether each member of one set is a member of the other, both ways
abbrev pub have_same_members : FinSet nat_cmp → FinSet nat_cmp → Bool
have_same_members s t = is_subset s t && is_subset t s

-- each set is a subset of itself
pub is_subset-itself : (s : FinSet nat_cmp) → is_subset s s ≡ true
is_subset-itself s = contains-is_subset nat_cmp_total s s (λ q h. h)

-- sets with the same members are equal
pub same_members_equal : (s t : FinSet nat_cmp) → have_same_members s t ≡ true → s ≡ t
same_members_equal s t h =
    let parts = and_parts (is_subset s t) (is_subset t s) h in
    same_set nat_cmp_total nat_cmp-IsAntisymmetric s t (λ q.
    both_ways (contains s q) (contains t q) (is_subset-contains nat_cmp_total s t parts.0 q) (is_subset-contains nat_cmp_total t s parts.1 q))

-- a set has the same members as itself
pub have_same_members-itself : (s : FinSet nat_cmp) → have_same_members s s ≡ true
have_same_members-itself s = ap (λ b. b && b) (is_subset-itself s)

-- `have_same_members` is symmetric and transitive
pub same_members_laws : IsPartialEquivalence have_same_members
same_members_laws = record {
  symm = λ s t. and_comm (is_subset s t) (is_subset t s);
  trans = λ s t u h k. subst (λ x. have_same_members s x ≡ true) (same_members_equal t u k) h;
}

-- `have_same_members` is an equivalence
pub same_members_equivalence : IsEquivalence have_same_members
same_members_equivalence = equiv same_members_laws have_same_members-itself
