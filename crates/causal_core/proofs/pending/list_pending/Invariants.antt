use Rattle.std.proofs.Common.{◌≡◌, ◌++◌, filter, map}
use Rattle.std.specs.List.{range_with_len}
use Rattle.causal_protocol.specs.Naming.{message_name}
use Rattle.causal_core.specs.Inside.Memories.{memories_in}
use Rattle.causal_core.specs.Pendings.{is_pending}
use Rattle.causal_core.proofs.pending.list_pending.Given as goal

abbrev pub invariant-loop-ssn : goal.invariant-loop-ssn
invariant-loop-ssn l = l.names.items ≡ l.fn.names.items ++ filter (is_pending (memories_in l.process_memories) l.q) (map (message_name l.source) (range_with_len 0 l.ssn))
