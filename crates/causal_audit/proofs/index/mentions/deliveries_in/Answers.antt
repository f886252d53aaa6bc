use Rattle.causal_audit.proofs.Common.{arith, past_at, past_length}
use Rattle.causal_audit.proofs.DeliveryNumbers.{deliveries_few}
use Rattle.causal_audit.proofs.index.mentions.deliveries_in.Goals as goal

pub overflow_add-count : goal.overflow_add-count
overflow_add-count c =
    let entries = c.args.entries.now in
    let i = c.loop-entry.entry-index in
    omega (arith, c.loop-entry.invariant, deliveries_few (past_at entries i), past_length entries i (omega (arith, c.loop-entry-test.true)), c.delivery_in-count.ensures.few, c.requires)
