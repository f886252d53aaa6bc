use Rattle.causal_audit.proofs.Common.{length, ap, subst, ◌∙◌, deliveries_in, Recording}
use Rattle.causal_audit.specs.Breaches.{EarliestBreachBy, last_deciding_instant}
use Rattle.causal_audit.specs.Verdicts.{IsVerdict}
use Rattle.causal_audit.proofs.Lemmas.OneVerdict.{one_verdict}
use Rattle.causal_audit.proofs.clock_audit.judge.Goals as goal

decides : (c : goal.After-decide_verdict) → IsVerdict c.args.tables.now c.args.f c.decide_verdict.result
decides c =
    let r = c.args.tables.now in
    let f = c.args.f in
    let found = c.earliest_breach_by_clock.result in
    c.decide_verdict.ensures r f c.first_excess-excess.ensures
    (subst (λ end. EarliestBreachBy r f end 0 (deliveries_in r.past) found) (c.last_deciding_instant-end.ensures.value ∙ ap (λ (s : Recording). last_deciding_instant (length s.past) c.first_excess-excess.result) c.trace.ensures) c.earliest_breach_by_clock.ensures)

pub returns-clause-verdict : goal.returns-clause-verdict
returns-clause-verdict c = decides c

pub returns-clause-only : goal.returns-clause-only
returns-clause-only c = λ other is. one_verdict c.args.tables.now c.args.f other c.decide_verdict.result is (decides c)
