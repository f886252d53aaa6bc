use Rattle.causal_audit.specs.Searches.{SearchScope}
use Rattle.causal_audit.specs.Breaches.{EarliestBreachBy}
use Rattle.causal_audit.proofs.Common.{subst, deliveries_in}
use Rattle.causal_audit.proofs.audit.verdict_of.Goals as goal

pub returns : goal.returns
returns c =
    let least = c.in_ok-least.least in
    let by = subst (λ (s : SearchScope). EarliestBreachBy s.run s.f s.end 0 (deliveries_in s.run.past) least) c.in_ok-indexed.ensures c.in_ok-least.ensures in
    c.decide_verdict.ensures c.args.trace.now.recording c.args.f c.first_excess_in-excess.ensures (c.in_ok-early.ensures.decides least by)
