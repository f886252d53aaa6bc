use Rattle.std.specs.Prelude.{is_none}
use Rattle.causal_holders.specs.Members.{HasMembers}
use Rattle.causal_protocol.specs.Memory.{present_at}
use Rattle.causal_core.specs.Inside.Memories.{memories_in}
use Rattle.causal_core.proofs.down_processes.down_processes_among.Given as goal

abbrev pub invariant-loop-p : goal.invariant-loop-p
invariant-loop-p l = HasMembers l.p l.down (λ p. is_none (present_at (memories_in l.process_memories) p))
