use Rattle.causal_trace.specs.Past.{instant}
use Rattle.causal_explain.proofs.ChainLemmas.{depends_led}
use Rattle.causal_explain.proofs.breach_explanation.breach_chain.Goals as goal

pub unreachable-requires : goal.unreachable-requires
unreachable-requires c =
    let r = c.args.trace.now.recording in
    let b = c.args.breach.now in
    let led = depends_led (instant r.past b.instant) b.delivery b.orphan c.requires.orphan.depends in
    (rw c.in_default.is at c.in_ok-found.ensures) led.0 led.1

pub returns : goal.returns
returns c = rw c.in-Some.is at c.in_ok-found.ensures
