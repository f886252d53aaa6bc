-- Knowledge united with nothing, knowledge after a mark, and knowledge from a message's items.
use Rattle.std.proofs.Common.{ℕ, ◌≡◌, ◌+◌, ◌≤◌, ◌||◌, true, false, not, nat_cmp, Some, refl, arith}
use Rattle.std.proofs.lemmas.Bool.{or_right}
use Rattle.std.proofs.lemmas.Bool.Decides.{nat_tests}
use Rattle.std.specs.Int.{from_bool}
use Rattle.std.specs.Ordering.{eq_by_cmp}
use Rattle.std.specs.Cmp.{nat_cmp_total, unsigned_tied}
use Rattle.std.specs.FinMap as fin
use Rattle.std.specs.FinSet as set
use Rattle.causal_name.specs.declared.Det.{Det}
use Rattle.causal_name.specs.declared.Pid.{Pid}
use Rattle.causal_name.specs.Names.{same_pid}
use Rattle.causal_holders.proofs.Lemmas.Sets.{len-is_subset}
use Rattle.causal_log.specs.declared.known.Known.{Known}
use Rattle.causal_log.specs.declared.batch.Item.{Item}
use Rattle.causal_log.specs.Knowledge.{unknown, held_by, union_with, as_stable, knowledge_from_item, is_carried}
use Rattle.causal_log.specs.Logs.{LogMap, after_mark}
use Rattle.causal_log.specs.Inside.BatchCache.{known_of_item, held_by_both}
use Rattle.causal_log.proofs.Lemmas.Searches.{or_nothing}

-- a union with the empty set adds no holders
none_before : (s : set.FinSet nat_cmp) → set.union set.empty s ≡ s
none_before s = set.same_set nat_cmp_total set.nat_cmp-IsAntisymmetric _ _ (λ q. grind (arith, set.contains-union nat_cmp_total set.empty s q, set.contains-empty))

none_after : (s : set.FinSet nat_cmp) → set.union s set.empty ≡ s
none_after s = set.same_set nat_cmp_total set.nat_cmp-IsAntisymmetric _ _ (λ q. grind (arith, set.contains-union nat_cmp_total s set.empty q, set.contains-empty))

-- a union with `unknown` changes nothing
pub joined_nothing : (known : Known) → union_with unknown known ≡ known
joined_nothing known = λ i. record { holders = none_before known.holders i; stable = known.stable }

joined_mark : (known : Known) → union_with known (as_stable unknown) ≡ as_stable known
joined_mark known = λ i. record { holders = none_after known.holders i; stable = or_right known.stable true refl i }

-- learning only that a determinant is stable is the same as marking it
pub marked_then : (log : LogMap) (det : Det) (known news : Known) → news ≡ as_stable unknown → Some known ≡ fin.get log det → fin.insert log det (union_with known news) ≡ after_mark log det
marked_then log det known news is there = grind (arith, joined_mark)

-- the members of a set into which a sender and a receiver are inserted
inserted : (s : set.FinSet nat_cmp) (from me : Pid) (q : ℕ) →
    set.contains (set.insert (set.insert s from.0) me.0) q ≡ (eq_by_cmp nat_cmp q me.0 || (eq_by_cmp nat_cmp q from.0 || set.contains s q))
inserted s from me q = grind (arith, set.contains-insert, nat_cmp_total)

-- an item's knowledge: its own holders, the sender and the receiver hold its determinant
pub told_both : (from me : Pid) (item : Item) → union_with (known_of_item item) (held_by_both from me) ≡ (knowledge_from_item from me item).1
told_both from me item =
    let all =
    set.same_set nat_cmp_total set.nat_cmp-IsAntisymmetric (set.union item.holders (held_by_both from me).holders) (knowledge_from_item from me item).1.holders (λ q.
    grind (arith, inserted, set.contains-union, set.contains-insert, set.contains-empty, nat_cmp_total))
    in
    λ i. record { holders = all i; stable = false }

two_told : (from me : Pid) (item : Item) → set.len (set.insert (held_by from).holders me.0) ≤ set.len (knowledge_from_item from me item).1.holders
two_told from me item = grind (arith, len-is_subset, set.contains-is_subset, nat_cmp_total, inserted, set.contains-empty)

one : (p : Pid) → set.len (held_by p).holders ≡ 1
one p = grind (arith, set.len-insert, nat_cmp_total, set.contains-empty, set.len-empty)

two_len : (from me : Pid) → set.len (set.insert (held_by from).holders me.0) ≡ from_bool (not (same_pid me from)) + 1
two_len from me = grind (arith, set.contains-insert, nat_cmp_total, set.contains-empty, or_nothing, unsigned_tied, set.len-insert, one)

-- an item is not carried on if its sender and its receiver alone are more than f holders
pub told_out : (f : ℕ) (from me : Pid) (item : Item) → f ≤ from_bool (not (same_pid me from)) → is_carried f (knowledge_from_item from me item).1 ≡ false
told_out f from me item few = grind (arith, nat_tests, two_told from me item, two_len from me)

-- what one process alone holds is not carried if f is 0
pub held_out : (f : ℕ) (p : Pid) → f ≡ 0 → is_carried f (held_by p) ≡ false
held_out f p none = grind (arith, nat_tests, one p)
