use Rattle.std.proofs.Common.{arith}
use Rattle.causal_explain.proofs.RangeLemmas.{finds_breach}
use Rattle.causal_explain.proofs.closest.earliest_breach_early.Goals as goal

pub returns-in-Some : goal.returns-in-Some
returns-in-Some c = finds_breach c.args.trace.now.recording c.args.f c.min-beginning.result c.in-Some.breach (omega arith) (rw c.in-Some.is at c.in_ok-breach.ensures)
