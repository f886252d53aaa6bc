use Rattle.std.proofs.lemmas.Grind.{common_steps}
use Rattle.std.proofs.Common.{rules, arith, ap, sym, refl, ◌∙◌, ◌≡◌, ◌∷◌, [], ◌++◌, reverse}
use Rattle.std.proofs.lemmas.List.{nil_from_length}
use Rattle.std.specs.Vec.Iter.{into_iter_items}
use Rattle.std.proofs.lemmas.Result.{err_from_is_err_and}
use Rattle.causal_merge.proofs.ReadLemmas.{reverse_step, merged-fault, merged-all}
use Rattle.causal_merge.proofs.merger.merge_events.Goals as goal

pub loop-placed-init : goal.loop-placed-init
loop-placed-init c = record {
  left = search rules;
  so_far = ([], refl, c.in-Ok.ensures.ok.0 c.args.limits.entries);
  processes = c.in-Ok.ensures.ok.1;
}

pub loop-placed-preserved : goal.loop-placed-preserved
loop-placed-preserved c = grind (arith, reverse_step)

pub returns-in_err-merge_event-clause-err : goal.returns-in_err-merge_event-clause-err
returns-in_err-merge_event-clause-err c =
    let p = err_from_is_err_and c.from_residual.result c.from_residual.ensures.1 in
    let was = c.loop-placed.invariant in
    let began = c.into_iter-placed-iterator.ensures.into_iter_gives in
    let all : c.args.events.items ≡ reverse was.so_far.0 ++ c.in-Some.placed ∷ into_iter_items c.next.new.self = sym began.0 ∙ was.so_far.1 ∙ ap (λ xs. reverse was.so_far.0 ++ xs) c.in-Some.ensures.steps.0 in
    rw (p.1, p.2) (merged-fault c.args.limits.entries c.args.processes _ c.args.events.items was.so_far.0 (into_iter_items c.next.new.self) c.in-Some.placed _ was.processes all (c.in_err-merge_event.ensures.err was.so_far.0 was.so_far.2))

pub returns-clause-ok : goal.returns-clause-ok
returns-clause-ok c = grind (arith, common_steps, nil_from_length, merged-all c.args.limits.entries c.args.processes)
