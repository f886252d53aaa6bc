use Rattle.std.proofs.Common.{arith}
use Rattle.std.proofs.lemmas.Result.{IfOk-weaker}
use Rattle.causal_explain.proofs.RangeLemmas.{finds}
use Rattle.causal_explain.proofs.closest.earliest_breach_for.Goals as goal

pub returns : goal.returns
returns c = IfOk-weaker c.earliest_breach.result _ _ (λ told is. finds c.args.trace.now.recording c.args.f told (omega arith) (rw c.len.ensures.length at is)) c.earliest_breach.ensures
