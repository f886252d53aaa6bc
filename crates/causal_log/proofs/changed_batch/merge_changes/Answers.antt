use Rattle.std.proofs.Common.{◌≡◌, ◌∙◌, ◌+◌, ◌++◌, ◌∷◌, [], drop, get_or, ap, refl, arith}
use Rattle.std.proofs.lemmas.Bool.{and_parts}
use Rattle.std.proofs.lemmas.List.{drop_more, drop_all}
use Rattle.causal_name.specs.declared.Det.{Det}
use Rattle.causal_log.specs.Logs.{log_of}
use Rattle.causal_log.proofs.Lemmas.Ascents.{ascending_tail}
use Rattle.causal_log.proofs.MergeLemmas.{cut_rest, recognized}
use Rattle.causal_log.proofs.changed_batch.merge_changes.Goals as goal

-- what stands for an element past the end
abbrev no_det : Det
no_det = record { source = record { 0 = 0 }; ssn = 0; dest = record { 0 = 0 }; rsn = 0 }

pub merge_change-requires-clause-before : goal.merge_change-requires-clause-before
merge_change-requires-clause-before c =
    c.loop-det.invariant.before (get_or c.args.changed.now c.loop-det.det-index no_det) _ (drop_more c.args.changed.now c.loop-det.det-index no_det c.loop-det-test.true)

pub loop-det-preserved : goal.loop-det-preserved
loop-det-preserved c =
    let changed = c.args.changed.now in
    let i = c.loop-det.det-index in
    let x : Det = get_or changed i no_det in
    let rest = drop (i + 1) changed in
    let here : drop i changed ≡ x ∷ rest = drop_more changed i no_det c.loop-det-test.true in
    let sorted = rw here at c.loop-det.invariant.sorted in
    record {
      within = c.in_ok-place.ensures.within;
      sorted = ascending_tail x rest sorted;
      ascend = c.in_ok-place.ensures.ascending;
      right = c.in_ok-place.ensures.right rest (rw here at c.loop-det.invariant.right);
      before = λ d ds is. c.in_ok-place.ensures.before d (and_parts _ _ (rw is at sorted)).0;
    }

pub returns : goal.returns
returns c =
    let changed = c.args.changed.now in
    let out = c.loop-det.out.items in
    let end : drop c.loop-det.det-index changed ≡ [] = drop_all c.loop-det.det-index changed (omega (arith, c.loop-det-test.false)) in
    c.shrink_to_fit.ensures.items ∙ c.in_ok-extend_from_slice.ensures.items ∙ ap (λ xs. out ++ xs) (cut_rest c.args.kept.now c.loop-det.place)
    ∙ recognized c.args.f (log_of c.args.entries.now.entries) (out ++ drop c.loop-det.place c.args.kept.now) c.loop-det.invariant.ascend (λ q. (rw end at c.loop-det.invariant.right) q refl)
