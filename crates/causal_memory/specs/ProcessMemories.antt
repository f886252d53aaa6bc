-- The memory of a process: its protocol view, the bodies that it keeps, and its reserved capacity.
use Rattle.std.specs.Prelude.{◌-◌, ℕ, List, vec_capacity, vec_len}
use Rattle.causal_name.specs.declared.Det.{Det}
use Rattle.causal_log.specs.Logs.{after_mark}
use Rattle.causal_memory.specs.declared.process_memory.ProcessMemory.{ProcessMemory}
use Rattle.causal_protocol.specs.Memory.{Memory, with_log}

-- the protocol's view of the memory of an up process
abbrev pub memory_of : ProcessMemory → Memory
memory_of c = record { log = c.log.map; sent = c.sent.kept; received = c.received.items }

-- the bodies of the messages that a process keeps, by number
abbrev pub bodies_of : ProcessMemory → List (List ℕ)
bodies_of c = c.sent.bodies

-- how many further messages of the next step, received names and logged determinants need no allocation
pub record Capacity : Type 0 where
  pub sent : ℕ
  pub received : ℕ
  pub log : ℕ

-- no capacity
abbrev pub no_capacity : Capacity
no_capacity = record { sent = 0; received = 0; log = 0 }

-- the reserved capacity of a memory
abbrev pub capacity_of : ProcessMemory → Capacity
capacity_of c = record { sent = c.sent.next_spare; received = vec_capacity c.received - vec_len c.received; log = c.log.spare }

-- the memory whose log has the determinant marked as stable
abbrev pub with_stable : Det → Memory → Memory
with_stable det = with_log (λ log. after_mark log det)
