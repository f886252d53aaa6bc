use Rattle.std.proofs.Common.{◌≡◌, true, length, subst, sym, ◌∙◌, arith}
use Rattle.std.specs.Option.{is_some}
use Rattle.std.proofs.lemmas.Bool.{false≢true}
use Rattle.causal_trace.specs.Dependence.{actor}
use Rattle.causal_explain.specs.Inside.ShortestPaths.{Nearest, PrecedesNext}
use Rattle.causal_explain.proofs.WayLemmas.{way_to_itself, way_through, no_way}
use Rattle.causal_explain.proofs.paths.path_step_to.Goals.{else-position-from-via-then-position-from+else-is_event, else-position-from-via-else-position-from}
use Rattle.causal_explain.proofs.paths.path_step_to.Goals as goal

pub returns-then-is_event : goal.returns-then-is_event
returns-then-is_event c past here forward nearest = grind (arith, way_to_itself)

pub returns-in-Some : goal.returns-in-Some
returns-in-Some c past here forward nearest =
    let e = c.args.entry.now in
    let other : c.args.from ≡ length past → is_some (actor e) ≡ true → ⊥ = λ same event. elim c.else-position-from.branch [
      | else-position-from-via-then-position-from+else-is_event w ↦ false≢true (sym w.if-is_event.false ∙ w.is_event.ensures ∙ event)
      | else-position-from-via-else-position-from w ↦ w.if-position-from.false (sym here ∙ sym same)
    ] in
    way_through e past c.args.from forward c.args.position here other c.in-Some.before (subst (Nearest past c.args.from (PrecedesNext e past)) c.in-Some.is nearest)

pub returns-in-None : goal.returns-in-None
returns-in-None c past here forward nearest = grind (arith, false≢true, no_way)
