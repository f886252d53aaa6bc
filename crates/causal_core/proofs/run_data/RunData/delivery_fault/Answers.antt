use Rattle.std.proofs.Common.{arith}
use Rattle.std.proofs.lemmas.Grind.{common_steps}
use Rattle.causal_core.specs.View.{run_from}
use Rattle.causal_core.proofs.Cells.{received_short}
use Rattle.causal_core.proofs.run_data.RunData.delivery_fault.Goals as goal

pub must_replay_fault-requires : goal.must_replay_fault-requires
must_replay_fault-requires c =
    received_short (run_from c.self.inside.trace.recording c.self.inside.faults c.self.inside.writers.items) c.self.inside.process_memories.items c.as_slice-process_memories.result.now c.args.q.0 c.process_memory_at.result c.in-Some.process_memory c.self.invariant c.as_slice-process_memories.ensures.value c.process_memory_at.ensures c.in-Some.is

pub overflow_cast-own : goal.overflow_cast-own
overflow_cast-own c =
    let short = received_short (run_from c.self.inside.trace.recording c.self.inside.faults c.self.inside.writers.items) c.self.inside.process_memories.items c.as_slice-process_memories.result.now c.args.q.0 c.process_memory_at.result c.in-Some.process_memory c.self.invariant c.as_slice-process_memories.ensures.value c.process_memory_at.ensures c.in-Some.is in
    grind (arith, common_steps, short, c.len.ensures)
