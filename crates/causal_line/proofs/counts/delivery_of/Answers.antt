use Rattle.causal_line.proofs.EntryCounts.{found_next}
use Rattle.causal_line.proofs.counts.delivery_of.Goals as goal

pub loop-i-preserved : goal.loop-i-preserved
loop-i-preserved c =
    found_next c.args.trace.now.recording.past c.entries-e-items.result.now c.loop-i.i c.e-item.result c.args.p.0 c.args.message
    c.loop-i.found c.find_step-found.result c.det_at.result c.entries-e-items.ensures.value c.loop-i-test.true c.e-item.is c.det_at.ensures c.loop-i.invariant c.find_step-found.ensures
