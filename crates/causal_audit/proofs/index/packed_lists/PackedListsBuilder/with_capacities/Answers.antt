use Rattle.std.proofs.lemmas.Grind.{common_steps}
use Rattle.std.proofs.lemmas.List.Sums.{sum_by_more, sum_by_more_le}
use Rattle.std.specs.Prelude.{sum}
use Rattle.causal_audit.proofs.Common.{◌≡◌, ◌+◌, ◌-◌, [], ◌∷◌, ◌++◌, get_or, sym, ap, ◌∙◌, arith, length, take, length-append, length-map, take_all, take_more, All-nil, All-push, refl}
use Rattle.causal_audit.specs.declared.index.packed_lists.ListSpan.{ListSpan}
use Rattle.causal_audit.specs.Inside.Index.Packed.{list_capacities, list_in}
use Rattle.causal_audit.proofs.index.PackedSpans.{none_in, packed_push, capacities_push}
use Rattle.causal_audit.proofs.index.packed_lists.PackedListsBuilder.with_capacities.Goals as goal

pub loop-capacity-init : goal.loop-capacity-init
loop-capacity-init c = grind (arith, All-nil)

pub loop-capacity-preserved : goal.loop-capacity-preserved
loop-capacity-preserved c =
    let so_far = c.loop-capacity.invariant in
    let b = c.loop-capacity.begin in
    let i = c.loop-capacity.capacity-index in
    let all = c.args.capacities.now in
    let x = get_or all i 0 in
    let spans = c.loop-capacity.spans.items in
    let is : c.push.new.self.items ≡ spans ++ record { begin = b; end = b } ∷ [] = grind (arith, common_steps) in
    let less : (b + x) - b ≡ x = omega arith in
    record {
      count = omega (arith, so_far.count, ap length is, length-append spans (record { begin = b; end = b } ∷ []));
      begin = omega (arith, so_far.begin, sum_by_more (λ n. n) all i 0 c.loop-capacity-test.true);
      empty = rw is (All-push (λ (s : ListSpan). s.begin ≡ s.end) spans (record { begin = b; end = b }) so_far.empty refl);
      packed = packed_push b (b + x) spans c.push.new.self.items is (omega arith) so_far.packed;
      capacities = ap (list_capacities (b + x)) is ∙ capacities_push b (b + x) spans ∙ ap (λ xs. xs ++ ((b + x) - b) ∷ []) so_far.capacities ∙ ap (λ n. take i all ++ n ∷ []) less ∙ sym (take_more all i 0 c.loop-capacity-test.true);
    }

pub returns-clause-empty : goal.returns-clause-empty
returns-clause-empty c = grind (arith, none_in)

pub overflow_add-begin : goal.overflow_add-begin
overflow_add-begin c = omega (arith, c.loop-capacity.invariant.begin, sum_by_more_le (λ n. n) c.args.capacities.now c.loop-capacity.capacity-index 0 c.loop-capacity-test.true, c.requires)

-- all lists are there
all_there : (c : goal.In_ok-positions) → take c.loop-capacity.capacity-index c.args.capacities.now ≡ c.args.capacities.now
all_there c = take_all c.loop-capacity.capacity-index c.args.capacities.now c.loop-capacity-test.false

pub invariant_of-result : goal.invariant_of-result
invariant_of-result c =
    let positions = c.in_ok-positions.positions in
    let long : length positions.items ≡ c.loop-capacity.begin = omega (arith, positions.ok, c.in_ok-positions.ensures.len) in
    (rw long c.loop-capacity.invariant.packed, omega (arith, long, c.loop-capacity.invariant.begin, ap sum (all_there c), c.requires))

pub returns-clause-capacities : goal.returns-clause-capacities
returns-clause-capacities c =
    let positions = c.in_ok-positions.positions in
    let long : length positions.items ≡ c.loop-capacity.begin = omega (arith, positions.ok, c.in_ok-positions.ensures.len) in
    rw long (c.loop-capacity.invariant.capacities ∙ all_there c)

pub returns-clause-count : goal.returns-clause-count
returns-clause-count c = omega (arith, length-map c.loop-capacity.spans.items (list_in c.in_ok-positions.positions.items), c.loop-capacity.invariant.count, c.loop-capacity-test.false, c.loop-capacity.auto.capacity-index-end)
