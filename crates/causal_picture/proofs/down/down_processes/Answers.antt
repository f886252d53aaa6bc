use Rattle.causal_trace.specs.State.{past_at}
use Rattle.causal_trace.proofs.Lemmas.Instants.{past_more}
use Rattle.causal_picture.proofs.down.down_processes.Goals as goal

pub loop-entry-preserved : goal.loop-entry-preserved
loop-entry-preserved c p =
    let i = c.loop-entry.entry-index in
    rw (past_more c.args.entries.now i _ c.loop-entry-test.true c.entry-item.is)
    (c.down_after_entry-down.ensures (past_at c.args.entries.now i) c.loop-entry.invariant p)
