-- Holders that a loop reads one by one, and how many there are.
use Rattle.std.proofs.Common.{◌≡◌, ℕ, zero, suc, ◌+◌, ◌≤◌, ◌<◌, Bool, false, cond, List, [], ◌∷◌, ◌++◌, length, get_or, take, drop, Option, Some, sym, ap, subst, ◌∙◌, arith, drop-cons, append_assoc}
use Rattle.std.specs.Prelude.{nat_le, nat_lt, ◌||◌, ◌==◌}
use Rattle.std.specs.Ordering.{nat_cmp}
use Rattle.std.specs.FinSet as set
use Rattle.std.specs.List.{flat_map}
use Rattle.std.proofs.lemmas.List.{take_more, append-nil}
use Rattle.std.proofs.lemmas.List.Concat.{flat_map-append}
use Rattle.std.specs.Cmp.{nat_cmp_total}
use Rattle.std.proofs.lemmas.Bool.Decides.{nat_tests}
use Rattle.causal_name.specs.Sets.{count_below}
use Rattle.causal_holders.specs.Members.{AreProcesses, ascending}
use Rattle.causal_holders.proofs.Lemmas.MemberCounts.{len_counted, count_below-le}
use Rattle.causal_wire.specs.declared.fault.WireFault.{WireFault}
use Rattle.causal_wire.specs.declared.fault.WireFault.TheVariants as faults
use Rattle.causal_wire.specs.Bytes.{others_bytes}
use Rattle.causal_wire.specs.Reading.{others_fault}

-- what follows a holder that is read
abbrev after : ℕ → ℕ → ℕ → ℕ → List ℕ → Option WireFault
after n source least p rest = cond (nat_le n p) (Some faults.Process) (cond (nat_lt p least || p == source) (Some faults.Holder) (others_fault n source (p + 1) rest))

-- one holder more
pub others_fault-next : (n source least i : ℕ) (xs : List ℕ) → i < length xs → others_fault n source least (drop i xs) ≡ after n source least (get_or xs i 0) (drop (i + 1) xs)
others_fault-next n source least i xs lt =
    let next : suc i ≡ i + 1 = omega arith in
    subst (λ k. others_fault n source least (drop i xs) ≡ after n source least (get_or xs i 0) (drop k xs)) next (ap (others_fault n source least) (drop-cons xs i 0 lt))

-- fewer than n numbers below n pass, if one of them does not
count_below-less : (n p : ℕ) (test : ℕ → Bool) → p < n → test p ≡ false → count_below n test < n
count_below-less zero p test lt h = absurd (omega (arith, lt))
count_below-less (suc n) p test lt h = grind (arith, nat_tests, count_below-le n test, count_below-less n p test)

-- a process that is not among them leaves at most 255 others
pub len_others : (s : set.FinSet nat_cmp) (p : ℕ) → AreProcesses s → p < 256 → set.contains s p ≡ false → set.len s < 256
len_others s p processes lt h = omega (arith, len_counted 256 s processes, count_below-less 256 p (set.contains s) lt h)

-- one holder more, which is right
pub others_fault-right : (n source least next i : ℕ) (xs : List ℕ) → i < length xs → get_or xs i 0 < n → least ≤ get_or xs i 0 → (get_or xs i 0 ≡ source → ⊥) → next ≡ get_or xs i 0 + 1
    → others_fault n source least (drop i xs) ≡ others_fault n source next (drop (i + 1) xs)
others_fault-right n source least next i xs lt below from other next_is =
    others_fault-next n source least i xs lt ∙ grind (arith, nat_tests)

-- the set of one holder more
pub from_list-next : (i : ℕ) (xs : List ℕ) → i < length xs → set.from_list {R = nat_cmp} (take (i + 1) xs) ≡ set.insert (set.from_list (take i xs)) (get_or xs i 0)
from_list-next i xs lt = ap (λ (l : List ℕ). set.from_list {R = nat_cmp} l) (take_more xs i 0 lt) ∙ set.from_list_push nat_cmp_total set.nat_cmp-IsAntisymmetric (take i xs) (get_or xs i 0)

-- ---- writing them

-- the count is written
pub others_begun : (out written : List ℕ) (s t : set.FinSet nat_cmp) (count : ℕ) → written ≡ out ++ count ∷ [] → t ≡ s → count ≡ set.len s → length (ascending s) ≡ set.len s → written ++ ascending t ≡ out ++ others_bytes s
others_begun out written s t count written_is same count_is len_is =
    ap (λ (w : List ℕ). w ++ ascending t) written_is ∙ append_assoc out (count ∷ []) (ascending t) ∙ (λ i. out ++ ((count_is ∙ sym len_is) i ∷ ascending (same i)))

-- one holder more is written
pub others_more : (total written out : List ℕ) (p : ℕ) (s t : set.FinSet nat_cmp) → written ≡ out ++ p ∷ [] → ascending s ≡ p ∷ ascending t → out ++ ascending s ≡ total → written ++ ascending t ≡ total
others_more total written out p s t written_is next so_far =
    ap (λ (w : List ℕ). w ++ ascending t) written_is ∙ append_assoc out (p ∷ []) (ascending t) ∙ ap (λ (l : List ℕ). out ++ l) (sym next) ∙ so_far

-- all are written
pub others_written : (total out : List ℕ) (s : set.FinSet nat_cmp) → ascending s ≡ [] → out ++ ascending s ≡ total → out ≡ total
others_written total out s none so_far = sym (append-nil out) ∙ ap (λ (l : List ℕ). out ++ l) (sym none) ∙ so_far

-- one element more is written
pub flat_map-next : {A : Type 0} (text : A → List ℕ) (xs : List A) (i : ℕ) (x : A) (before out : List ℕ) → i < length xs → x ≡ get_or xs i x → out ≡ before ++ flat_map text (take i xs)
    → out ++ text x ≡ before ++ flat_map text (take (i + 1) xs)
flat_map-next text xs i x before out lt is so_far =
    let more : take (i + 1) xs ≡ take i xs ++ x ∷ [] = take_more xs i x lt ∙ ap (λ y. take i xs ++ y ∷ []) (sym is) in
    let joined : flat_map text (take (i + 1) xs) ≡ flat_map text (take i xs) ++ text x = ap (flat_map text) more ∙ flat_map-append text (take i xs) (x ∷ []) ∙ ap (λ (t : List ℕ). flat_map text (take i xs) ++ t) (append-nil (text x)) in
    ap (λ (o : List ℕ). o ++ text x) so_far ∙ append_assoc before (flat_map text (take i xs)) (text x) ∙ ap (λ (t : List ℕ). before ++ t) (sym joined)
