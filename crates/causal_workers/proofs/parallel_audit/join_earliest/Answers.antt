use Rattle.std.proofs.Common.{arith, sym, ap, ◌∙◌, ◌≡◌, [], length}
use Rattle.std.proofs.lemmas.List.{nil_from_length}
use Rattle.std.specs.Vec.Iter.{into_iter_items}
use Rattle.causal_workers.proofs.ShareLemmas.{covers_next, covers_all}
use Rattle.causal_workers.proofs.parallel_audit.join_earliest.Goals as goal

pub loop-handle-preserved : goal.loop-handle-preserved
loop-handle-preserved g c =
    let step = c.in-Some.ensures.steps in (
      (let shorter = ap length step.0 in let was = c.loop-handle.invariant.0 in omega (arith, step.1)),
      λ followed to all. covers_next followed c.loop-handle.least c.in-Some.handle (into_iter_items c.next.new.self) to c.join.result c.earlier_result-least.result c.earlier_result-least.ensures c.join.ensures
          (rw step.0 at c.loop-handle.invariant.1 followed to all),
    )

pub returns : goal.returns
returns g c =
    let began = c.into_iter-handle-iterator.ensures.into_iter_gives in
    let none : into_iter_items c.loop-handle.handle-iterator ≡ [] = nil_from_length _ (sym c.loop-handle.invariant.0 ∙ c.in-None.ensures.steps.0) in
    λ followed to all. covers_all followed c.loop-handle.least to (rw none at c.loop-handle.invariant.1 followed to (rw began.0 all))
