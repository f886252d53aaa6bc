use Rattle.std.proofs.Common.{arith}
use Rattle.causal_trace.proofs.SortedLemmas.{last_newest, none_newest}
use Rattle.causal_trace.proofs.sorted_deliveries.SortedDeliveries.newest.Goals as goal

pub returns-in-Some : goal.returns-in-Some
returns-in-Some c = λ dets few are.
    last_newest c.args.self.now.deliveries dets (are c.requires) c.args.det c.args.among c.number_within-number.result (λ j low there. c.number_within-number.ensures.high j low (omega (arith, few, there))) c.number_within-number.ensures.low c.range.result (c.range.ensures.in_range tt) c.in-Some.found.now c.next_back.new.self c.in-Some.ensures.steps

pub returns-in-None : goal.returns-in-None
returns-in-None c = λ dets few are.
    none_newest c.args.self.now.deliveries dets (are c.requires) c.args.det c.args.among c.number_within-number.result (λ j low there. c.number_within-number.ensures.high j low (omega (arith, few, there))) c.number_within-number.ensures.low c.range.result (c.range.ensures.in_range tt) c.in-None.ensures.steps.0
