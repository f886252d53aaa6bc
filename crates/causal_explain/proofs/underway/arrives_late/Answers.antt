use Rattle.std.proofs.Common.{arith}
use Rattle.causal_explain.proofs.underway.arrives_late.Goals as goal

pub returns-in-Deliver : goal.returns-in-Deliver
returns-in-Deliver c past transit stand = grind (arith, transit c.in-Deliver.send, c.log_has_det-is_logged.ensures past c.args.det stand)
