use Rattle.std.proofs.Common.{arith}
use Rattle.causal_audit.proofs.NoOrphanSoFar.{not_yet}
use Rattle.causal_audit.proofs.delivery_state.breach_at.Goals as goal

pub returns-then-t-k : goal.returns-then-t-k
returns-then-t-k c n past d accepted long at state = not_yet n c.args.f past c.args.k (omega (arith, c.if-t-k.true, long))
