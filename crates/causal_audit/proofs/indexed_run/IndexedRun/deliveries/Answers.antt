use Rattle.std.proofs.lemmas.Grind.{common_steps}
use Rattle.causal_audit.proofs.Common.{arith, instant, instant_length}
use Rattle.causal_audit.proofs.DeliveryNumbers.{deliveries_few}
use Rattle.causal_audit.proofs.indexed_run.IndexedRun.deliveries.Goals as goal

pub overflow_cast-result : goal.overflow_cast-result
overflow_cast-result c =
    let past = c.self.inside.run.value.recording.past in
    let kept = c.self.invariant.searched in
    grind (arith, common_steps, deliveries_few (instant past c.self.inside.end), instant_length past c.self.inside.end kept.within, kept.short, kept.numbered.count)
