use Rattle.std.proofs.Common.{◌+◌, reverse, arith}
use Rattle.causal_trace.specs.Numbers.{delivered_dets}
use Rattle.causal_trace.proofs.Lemmas.DeliveryNumbers.{number_below}
use Rattle.causal_trace.proofs.trace.Trace.older_delivery.Goals as goal

pub find_from-requires-clause-begin : goal.find_from-requires-clause-begin
find_from-requires-clause-begin c = grind (arith, number_below (c.args.number + 1) (delivered_dets (reverse c.self.inside.entries.items)) c.args.det)

pub find_near-requires-clause-begin : goal.find_near-requires-clause-begin
find_near-requires-clause-begin c = grind (arith, number_below (c.args.number + 1) (delivered_dets (reverse c.self.inside.entries.items)) c.args.det)
