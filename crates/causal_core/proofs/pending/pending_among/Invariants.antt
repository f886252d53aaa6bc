use Rattle.std.proofs.Common.{◌≡◌, ◌++◌, drop, filter}
use Rattle.causal_core.specs.Inside.Memories.{memories_in}
use Rattle.causal_core.specs.Pendings.{is_pending, names_from, pending_in}
use Rattle.causal_core.proofs.pending.pending_among.Given as goal

abbrev pub invariant-loop-p : goal.invariant-loop-p
invariant-loop-p l = l.names.items ++ filter (is_pending (memories_in l.process_memories) l.q) (names_from l.p (memories_in (drop l.p l.process_memories))) ≡ pending_in (memories_in l.process_memories) l.q
