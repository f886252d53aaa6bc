use Rattle.std.proofs.lemmas.List.{get_or-replicate}
use Rattle.std.proofs.lemmas.List.Folds.{sum_by-replicate}
use Rattle.std.proofs.lemmas.List.Sums.{sum_by-set}
use Rattle.causal_audit.proofs.Common.{ℕ, ◌≡◌, ◌+◌, ◌<◌, ◌∙◌, length, get_or, set, take, subst, sym, arith, length-replicate, length-set, get_or_default, replicate}
use Rattle.causal_audit.specs.Inside.Index.Packed.{AreOccurrences}
use Rattle.causal_audit.proofs.index.Capacities.{counted_few, one_more_counted}
use Rattle.causal_audit.proofs.index.mentions.occurrences.Goals as goal

pub loop-number-init : goal.loop-number-init
loop-number-init c =
    let many = c.args.count in
    let zeros : c.in_ok-counts.counts.items ≡ replicate many 0 = c.in_ok-counts.ensures.items_if_clones_equal (λ y h. h) in
    rw zeros (record {
      many = length-replicate {A = ℕ} many 0;
      each = λ m low. get_or-replicate {A = ℕ} many m 0 0 (omega (arith, low, length-replicate {A = ℕ} many 0));
      total = omega (arith, sum_by-replicate (λ n. n) many 0);
    })

pub overflow_add-index_mut : goal.overflow_add-index_mut
overflow_add-index_mut c =
    let i = c.loop-number.number-index in
    grind (arith, get_or_default, counted_few c.loop-number.counts.items c.args.numbers.now i c.loop-number-test.true c.loop-number.invariant.each, c.requires.low i 0 c.loop-number-test.true)

pub loop-number-preserved : goal.loop-number-preserved
loop-number-preserved c =
    let counts = c.loop-number.counts.items in
    let numbers = c.args.numbers.now in
    let i = c.loop-number.number-index in
    let v = get_or numbers i 0 in
    let x = c.index_mut.result.now in
    let there : v < length counts = omega (arith, c.requires.low i 0 c.loop-number-test.true, c.loop-number.invariant.many) in
    let is : x ≡ get_or counts v 0 = c.index_mut.ensures.value ∙ get_or_default counts v x 0 there in
    record {
      many = length-set counts v (x + 1) ∙ c.loop-number.invariant.many;
      each = subst (λ n. AreOccurrences (set counts v (n + 1)) (take (i + 1) numbers)) (sym is) (one_more_counted counts numbers i c.loop-number-test.true c.loop-number.invariant.each there);
      total = omega (arith, sum_by-set (λ n. n) counts v (x + 1) 0 there, is, c.loop-number.invariant.total);
    }
