use Rattle.causal_core.specs.View.{run_from}
use Rattle.causal_core.proofs.Cells.{received_short}
use Rattle.causal_core.proofs.run_data.RunData.named_message.Goals as goal

pub named_message-requires : goal.named_message-requires
named_message-requires c = received_short (run_from c.self.inside.trace.recording c.self.inside.faults c.self.inside.writers.items) c.self.inside.process_memories.items c.as_slice.result.now c.args.q.0 c.process_memory_at.result c.in-Some.process_memory c.self.invariant c.as_slice.ensures.value c.process_memory_at.ensures c.in-Some.is
