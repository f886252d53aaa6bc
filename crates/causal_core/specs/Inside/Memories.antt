-- The memories of the processes: their protocol view, kept bodies and reserved capacities.
use Rattle.std.specs.Prelude.{ℕ, ◌+◌, ◌≤◌, List, [], ◌∷◌, map, Option, unwrap_or, slice_get}
use Rattle.std.specs.Option.{option_map, option_map_or}
use Rattle.std.specs.FinMap as fin
use Rattle.causal_name.specs.declared.Pid.{Pid}
use Rattle.causal_log.specs.declared.batch.Item.{Item}
use Rattle.causal_log.specs.Logs.{LogMap}
use Rattle.causal_memory.specs.declared.process_memory.ProcessMemory.{ProcessMemory}
use Rattle.causal_protocol.specs.Memory.{Memory, Memories, new_memory, present_at, with_sent_message}
use Rattle.causal_protocol.specs.Run.{Run, memories_of, stable_of}
use Rattle.causal_log.specs.Slots.{first_of_slot}
use Rattle.causal_log.specs.Stores.{dets_in}
use Rattle.causal_protocol.specs.Naming.{next_rsn}
use Rattle.causal_name.specs.declared.Det.{Det}
use Rattle.causal_core.specs.View.{RunDataState}
use Rattle.causal_memory.specs.ProcessMemories.{Capacity, memory_of, bodies_of, no_capacity, capacity_of}

-- the protocol's view of the memories of all processes
abbrev pub memories_in : List (Option ProcessMemory) → Memories
memories_in process_memories = map (option_map memory_of) process_memories

-- the bodies that each process keeps
abbrev pub bodies_in : List (Option ProcessMemory) → List (List (List ℕ))
bodies_in process_memories = map (λ c. option_map_or bodies_of c []) process_memories

-- the reserved capacity of each process; none for a down process
abbrev pub capacities_in : List (Option ProcessMemory) → List Capacity
capacities_in process_memories = map (λ c. option_map_or capacity_of c no_capacity) process_memories

-- the reserved capacity of process p
abbrev pub capacity_at : List Capacity → ℕ → Capacity
capacity_at capacities p = unwrap_or (slice_get capacities p) no_capacity

-- capacity is reserved for a delivery to q that logs the given number of determinants, and for its sends
pub record HasCapacity (q logged : ℕ) (d : RunDataState) : Type 0 where
  pub entries : 9 ≤ d.spare
  pub sent : 8 ≤ (capacity_at d.capacities q).sent
  pub received : 1 ≤ (capacity_at d.capacities q).received
  pub log : logged ≤ (capacity_at d.capacities q).log

-- a memory after it keeps messages to these processes, sent from a position on with one batch
unfoldable pub keep_all : ℕ → List Item → List Pid → Memory → Memory
keep_all send batch [] m = m
keep_all send batch (to ∷ tos) m = keep_all (send + 1) batch tos (with_sent_message to send batch m)

-- the memory of process p; that of a new process if p is down
abbrev pub memory_at : Memories → ℕ → Memory
memory_at ms p = unwrap_or (present_at ms p) (new_memory fin.empty)

-- the log of process p; empty if p is down
abbrev pub log_at : Memories → ℕ → LogMap
log_at ms p = (memory_at ms p).log

-- the least determinant in stable storage of q's next delivery
abbrev pub stored_for : Run → Pid → Option Det
stored_for r q = first_of_slot q (next_rsn (memories_of r) q) (dets_in (stable_of r))
