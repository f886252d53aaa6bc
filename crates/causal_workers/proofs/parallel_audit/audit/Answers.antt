use Rattle.causal_audit.proofs.Lemmas.OneVerdict.{one_verdict}
use Rattle.causal_workers.proofs.parallel_audit.audit.Goals as goal
use Rattle.std.proofs.Common.{arith}

pub returns-clause-verdict : goal.returns-clause-verdict
returns-clause-verdict g c =
    let r = c.args.trace.now.recording in
    let f = c.args.f in
    let found = c.in_ok-least.least in
    let ready = c.in_ok-prepared.ensures in
    c.decide_verdict.ensures r f ready.excess (ready.sufficient.1 found (ready.sufficient.2 found c.in_ok-least.ensures.least))

pub returns-clause-only : goal.returns-clause-only
returns-clause-only g c = grind (arith, one_verdict, returns-clause-verdict)
