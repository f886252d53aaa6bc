use Rattle.std.proofs.Common.{◌≡◌, ◌-◌, ◌++◌, ◌∷◌, [], true, take, refl, subst, arith}
use Rattle.std.proofs.lemmas.Grind.{elements}
use Rattle.causal_name.specs.Names.{is_ascending}
use Rattle.causal_log.specs.Logs.{dets_of}
use Rattle.causal_log.proofs.MergeLemmas.{part_passed}
use Rattle.causal_log.proofs.batch.item_index.Goals as goal

pub loop-place-preserved-then-comes_before : goal.loop-place-preserved-then-comes_before
loop-place-preserved-then-comes_before c = grind (arith, elements)

pub loop-place-preserved : goal.loop-place-preserved
loop-place-preserved c = grind (arith, elements)

pub returns-clause-before : goal.returns-clause-before
returns-clause-before c =
    let end = c.loop-place.invariant in
    let items = c.args.items.now in
    let none : c.loop-place.place - 0 ≡ c.loop-place.place = omega arith in
    subst (λ n. is_ascending (dets_of (take n items) ++ c.args.det ∷ []) ≡ true) none
    (part_passed [] items 0 c.loop-place.place c.args.det (omega arith) (omega (arith, end.order, end.within)) c.requires refl end.last)
