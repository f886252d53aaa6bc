use Rattle.causal_trace.proofs.SortedLemmas.{numbered_next}
use Rattle.causal_trace.proofs.sorted_deliveries.SortedDeliveries.add.Goals as goal

pub returns : goal.returns
returns c = λ dets count are whole. numbered_next c.args.self.now.deliveries c.insert.new.self dets c.args.det c.args.number count (are whole) c.in-Ok.ensures.updates.0
