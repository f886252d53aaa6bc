use Rattle.std.proofs.Common.{arith}
use Rattle.causal_core.specs.Inside.Memories.{memories_in}
use Rattle.causal_core.proofs.ProcessBegins.{fresh_held}
use Rattle.causal_core.proofs.run_data.RunData.open.Goals as goal

pub invariant_of-result : goal.invariant_of-result
invariant_of-result c =
    grind (arith, fresh_held c.args.n c.args.f (memories_in c.in_ok-process_memories.process_memories.items) (c.requires.some, c.requires.few) c.in_ok-process_memories.ensures.memories)
