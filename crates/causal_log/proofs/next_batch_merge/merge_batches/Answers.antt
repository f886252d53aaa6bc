use Rattle.std.proofs.Common.{◌≡◌, ◌∙◌, ◌+◌, ◌∷◌, drop, ap, refl, sym, arith}
use Rattle.std.proofs.lemmas.List.{drop_more, drop_all}
use Rattle.causal_log.specs.Logs.{dets_of}
use Rattle.causal_log.specs.Inside.Merges.{log_before}
use Rattle.causal_log.proofs.Lemmas.Ascents.{ascending_tail}
use Rattle.causal_log.proofs.MergeLemmas.{cut_rest, merged_all, merged_next}
use Rattle.causal_log.proofs.next_batch_merge.merge_batches.Goals as goal

pub loop-item-init : goal.loop-item-init
loop-item-init c = record {
  within = omega arith;
  ascend = c.requires.ascending;
  merged = rw c.in_ok-out.ensures.items (record { log = log_before c.args.delivery.now; carries = c.requires.kept; all = refl; same = λ q there. refl; before = λ x xs e. refl });
}

pub copy_before-requires-clause-before : goal.copy_before-requires-clause-before
copy_before-requires-clause-before c = grind (arith, drop_more, c.loop-item.invariant.merged.before)

pub loop-item-preserved : goal.loop-item-preserved
loop-item-preserved c =
    let d = c.args.delivery.now in
    let items = d.items.now in
    let i = c.loop-item.item-index in
    let x = c.item-item.result in
    let here : drop i items ≡ x ∷ drop (i + 1) items = drop_more items i x c.loop-item-test.true ∙ ap (λ y. y ∷ drop (i + 1) items) (sym c.item-item.is) in
    let ascend = rw here at c.loop-item.invariant.ascend in
    record {
      within = c.in_ok-place-2.ensures.within;
      ascend = ascending_tail x.det (dets_of (drop (i + 1) items)) ascend;
      merged =
          merged_next d.f items d.from d.me (log_before d) x _ _ _ c.copy_before.new.out.items (drop c.in_ok-place.place c.args.kept.now) c.merge_item.new.out.items (drop c.in_ok-place-2.place c.args.kept.now) ascend
          c.in_ok-place.ensures.same c.in_ok-place-2.ensures.news c.in_ok-place-2.ensures.before (rw here at c.loop-item.invariant.merged);
    }

pub returns : goal.returns
returns c = grind (arith, cut_rest, merged_all, drop_all)
