-- A recorded run has exactly one verdict.
use Rattle.causal_audit.proofs.Common.{ℕ, ◌≡◌, ◌<◌, Bool, true, List, sym, ◌∙◌, arith, nat_cmp, nat_cmp_total, FinSet, contains, same_set, nat_cmp-IsAntisymmetric, IsSubsetBelow, Entry, instant, Recording, HasOrphan}
use Rattle.std.specs.Cmp.{both_ways}
use Rattle.causal_audit.specs.declared.verdict.Verdict.TheVariants.{Exceeded, Orphan}
use Rattle.causal_audit.specs.Verdicts.{IsFirstUnsafe, HasMembers, IsBreach}
use Rattle.causal_audit.specs.Laws.{VerdictIsUnique}

one_instant : (r : Recording) (f t u : ℕ) → IsFirstUnsafe r f t → IsFirstUnsafe r f u → t ≡ u
one_instant r f t u a b = grind arith

-- two sets are equal if they have the same members below n, and no others
pub same_members : (n : ℕ) (s t : FinSet nat_cmp) → ((p : ℕ) → contains s p ≡ true → p < n) → ((p : ℕ) → contains t p ≡ true → p < n) → IsSubsetBelow n (contains s) (contains t) → IsSubsetBelow n (contains t) (contains s) → s ≡ t
same_members n s t below_s below_t there back = same_set nat_cmp_total nat_cmp-IsAntisymmetric s t (λ q. both_ways (contains s q) (contains t q) (λ h. there q (below_s q h) h) (λ h. back q (below_t q h) h))

one_down : (n : ℕ) (test : ℕ → Bool) (s t : FinSet nat_cmp) → HasMembers n s test → HasMembers n t test → s ≡ t
one_down n test s t a b = same_members n s t a.process b.process (λ p h e. b.member p h ∙ sym (a.member p h) ∙ e) (λ p h e. a.member p h ∙ sym (b.member p h) ∙ e)

orphaned : (n f : ℕ) (past : List Entry) (k : ℕ) (c : FinSet nat_cmp) (p : ℕ) → IsBreach n f past k c p → HasOrphan n f past k
orphaned n f past k c p a = record { crash = contains c; orphan = p; may_crash = a.least.may_crash; is_orphan = a.least.is_orphan }

one_delivery : (n f : ℕ) (past : List Entry) (k j : ℕ) (c d : FinSet nat_cmp) (p q : ℕ) → IsBreach n f past k c p → IsBreach n f past j d q → k ≡ j
one_delivery n f past k j c d p q a b = grind (arith, orphaned n f past k c p a, orphaned n f past j d q b, a.first j, b.first k)

one_crash : (n f : ℕ) (past : List Entry) (k : ℕ) (c d : FinSet nat_cmp) (p q : ℕ) → IsBreach n f past k c p → IsBreach n f past k d q → c ≡ d
one_crash n f past k c d p q a b = same_members n c d a.least.process b.least.process (a.least.least_set (contains d) q b.least.may_crash b.least.is_orphan) (b.least.least_set (contains c) p a.least.may_crash a.least.is_orphan)

one_orphan : (n f : ℕ) (past : List Entry) (k : ℕ) (c : FinSet nat_cmp) (p q : ℕ) → IsBreach n f past k c p → IsBreach n f past k c q → p ≡ q
one_orphan n f past k c p q a b = omega (arith, a.least.least_orphan q b.least.is_orphan, b.least.least_orphan p a.least.is_orphan)

one_breach : (r : Recording) (f t u k j : ℕ) (c d : FinSet nat_cmp) (p q : ℕ) → t ≡ u → IsBreach r.processes f (instant r.past t) k c p → IsBreach r.processes f (instant r.past u) j d q → Orphan t k c p ≡ Orphan u j d q
one_breach r f t u k j c d p q same a b =
    let n = r.processes in
    let past = instant r.past u in
    let at : IsBreach n f past k c p = rw same at a in
    let k_j : k ≡ j = one_delivery n f past k j c d p q at b in
    let at_j : IsBreach n f past j c p = rw k_j at at in
    let c_d : c ≡ d = one_crash n f past j c d p q at_j b in
    let p_q : p ≡ q = one_orphan n f past j d p q (rw c_d at at_j) b in
    cc

-- two verdicts on one run for one f are equal
pub one_verdict : VerdictIsUnique
one_verdict r f (Exceeded t d) (Exceeded u e) a b = grind (arith, one_instant r f t u a.0 b.0, one_down)
one_verdict r f (Orphan t k c p) (Orphan u j d q) a b = one_breach r f t u k j c d p q (one_instant r f t u a.0 b.0) a.1 b.1
one_verdict r f v w a b = grind (arith, one_instant)
