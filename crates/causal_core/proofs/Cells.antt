-- One memory of a list: reading it at its index, the effect of a write there, and how much it holds.
use Rattle.std.proofs.Common.{ℕ, ◌≡◌, ◌<◌, Bool, true, List, [], ◌∷◌, length, get_or, Option, Some, refl, ap, ◌∙◌, sym, arith, map, slice_get, slice_set, ◌≤◌}
use Rattle.std.specs.Prelude.{◌^◌, is_some, is_none, not, unwrap_or, vec_len}
use Rattle.std.specs.FinMap as fin
use Rattle.std.specs.Option.{option_and_then, option_map_or, option_map, option_copied}
use Rattle.std.proofs.lemmas.List.{length-map, map-set, set-get_or}
use Rattle.std.proofs.lemmas.Option.{slice_get_read, slice_get-map, slice_get_past}
use Rattle.causal_memory.specs.declared.process_memory.ProcessMemory.{ProcessMemory}
use Rattle.causal_name.specs.declared.Pid.{Pid}
use Rattle.causal_protocol.specs.Memory.{Memory, Memories, new_memory, present_at, SentMessage, update_at}
use Rattle.causal_protocol.specs.Naming.{if_addressed_to, sent_message_for, message_name}
use Rattle.causal_core.specs.Inside.Memories.{memories_in, memory_at, bodies_in, capacities_in, capacity_at}
use Rattle.causal_name.specs.Names.{same_pid}
use Rattle.causal_trace.specs.declared.entry.Entry.{Entry}
use Rattle.causal_trace.proofs.Lemmas.CountBounds.{deliveries_few, sends_few}
use Rattle.causal_trace.proofs.Lemmas.WellFormed.{formed_short}
use Rattle.causal_protocol.specs.Run.{Run}
use Rattle.causal_core.specs.Inside.MemoryInvariant.{MatchesEntriesAt, AllMatchEntries, IsRunData}
use Rattle.std.specs.Borrow.{Bor}
use Rattle.causal_memory.specs.ProcessMemories.{memory_of, bodies_of, capacity_of, no_capacity}
use Rattle.causal_core.proofs.BoxLemmas.{map-set_kept}
use Rattle.causal_core.proofs.Lemmas.Slices.{slice_get-set_same}

-- writing back an element that is read changes nothing
pub read_back : {X : Type 0} (xs : List X) (i : ℕ) (x : X) → x ≡ get_or xs i x → slice_set xs i x ≡ xs
read_back xs i x is = ap (slice_set xs i) is ∙ set-get_or xs i x

-- an element that is read
pub read_at : {X : Type 0} (xs : List X) (i : ℕ) (x y : X) → i < length xs → x ≡ get_or xs i x → x ≡ y → slice_get xs i ≡ Some y
read_at xs i x y h is same = slice_get_read xs (length xs) i x refl h is ∙ ap Some same

-- an index with an element that is not `None` is within the list
pub up_within : {X : Type 0} (xs : List (Option X)) (p : ℕ) → is_some (present_at xs p) ≡ true → p < length xs
up_within [] p h = grind arith
up_within (each ∷ others) p h = grind (arith, up_within others)

-- the memory of an up process is read at the index of its number
pub read_there : (process_memories : List (Option ProcessMemory)) (p i : ℕ) (slot : Option ProcessMemory) (m : ProcessMemory) → is_some (present_at (memories_in process_memories) p) ≡ true → i ≡ p → slot ≡ get_or process_memories i slot → slot ≡ Some m → slice_get process_memories p ≡ Some (Some m)
read_there process_memories p i slot m up index value is =
    read_at process_memories p slot (Some m) (omega (arith, length-map process_memories (option_map memory_of), up_within (memories_in process_memories) p up)) (value ∙ ap (λ k. get_or process_memories k slot) index) is

-- what is the same for a memory that is written as for the one that was read is the same for all memories
pub kept_cells : {Y : Type 0} (f : Option ProcessMemory → Y) (process_memories : List (Option ProcessMemory)) (i : ℕ) (slot : Option ProcessMemory) (m new : ProcessMemory) → slot ≡ get_or process_memories i slot → slot ≡ Some m → f (Some new) ≡ f (Some m) → map f (slice_set process_memories i (Some new)) ≡ map f process_memories
kept_cells f process_memories i slot m new value is same = map-set_kept f process_memories i slot (Some new) value (same ∙ ap f (sym is))

-- what is known of process p by its memory, which was read
module _ (process_memories : List (Option ProcessMemory)) (p : ℕ) (m : ProcessMemory) (there : slice_get process_memories p ≡ Some (Some m)) where
  pub present_read : present_at (memories_in process_memories) p ≡ Some (memory_of m)
  present_read = ap (option_and_then (λ o. o)) (slice_get-map (option_map memory_of) process_memories p ∙ ap (option_map (option_map memory_of)) there)

  pub memory_read : memory_at (memories_in process_memories) p ≡ memory_of m
  memory_read = ap (λ o. unwrap_or o (new_memory fin.empty)) present_read

  pub bodies_read : unwrap_or (slice_get (bodies_in process_memories) p) [] ≡ bodies_of m
  bodies_read = ap (λ o. unwrap_or o []) (slice_get-map (λ c. option_map_or bodies_of c []) process_memories p ∙ ap (option_map (λ c. option_map_or bodies_of c [])) there)

  pub capacity_read : capacity_at (capacities_in process_memories) p ≡ capacity_of m
  capacity_read = ap (λ o. unwrap_or o no_capacity) (slice_get-map (λ c. option_map_or capacity_of c no_capacity) process_memories p ∙ ap (option_map (λ c. option_map_or capacity_of c no_capacity)) there)

  -- the memories after it is changed and written
  pub updated_cells : (g : Memory → Memory) (i : ℕ) (new : ProcessMemory) → i ≡ p → memory_of new ≡ g (memory_of m) → memories_in (slice_set process_memories i (Some new)) ≡ update_at g (memories_in process_memories) p
  updated_cells g i new index is =
      map-set (option_map memory_of) process_memories i (Some new)
      ∙ (λ j. slice_set (memories_in process_memories) (index j) (Some (is j)))
      ∙ ap (λ o. slice_set (memories_in process_memories) p (option_map g o)) (sym present_read)

-- the capacity of an up process after its memory is written
pub capacity_written : (process_memories : List (Option ProcessMemory)) (p i : ℕ) (new : ProcessMemory) → is_some (present_at (memories_in process_memories) p) ≡ true → i ≡ p → capacity_at (capacities_in (slice_set process_memories i (Some new))) p ≡ capacity_of new
capacity_written process_memories p i new up index =
    let within : p < length process_memories = omega (arith, length-map process_memories (option_map memory_of), up_within (memories_in process_memories) p up) in
    capacity_read (slice_set process_memories i (Some new)) p new (ap (λ k. slice_get (slice_set process_memories k (Some new)) p) index ∙ slice_get-set_same process_memories p (Some new) within)

-- the message that a process keeps for q, by its sender's memory
pub kept_from : (ms : Memories) (q source : Pid) (ssn : ℕ) (sender : Option Memory) → sender ≡ present_at ms source.0 → sent_message_for ms q (message_name source ssn) ≡ if_addressed_to q (option_and_then (λ m. slice_get m.sent ssn) sender)
kept_from ms q source ssn sender is = ap (λ o. if_addressed_to q (option_and_then (λ (m : Memory). slice_get m.sent ssn) o)) (sym is)

-- if a bit is the opposite of whether there is a memory, it is whether there is none
pub none_told : (c : Option ProcessMemory) (b : Bool) → is_some c ≡ not b → is_none c ≡ b
none_told c b h = grind arith

-- whether a process has no memory, by its element of the list
pub down_there : (process_memories : List (Option ProcessMemory)) (p : ℕ) (process_memory : Option ProcessMemory) → p < length process_memories → process_memory ≡ get_or process_memories p process_memory → is_none (present_at (memories_in process_memories) p) ≡ is_none process_memory
down_there process_memories p process_memory h is = grind (arith, slice_get-map, read_at)

-- an up process has received no more messages than a trace may have entries
received_fits : (past : List Entry) (p : ℕ) (o : Option Memory) → MatchesEntriesAt past p o → length past ≤ 16777216 → option_map_or (λ m. length m.received) o 0 ≤ 16777216
received_fits past p o h short = grind (arith, deliveries_few)

-- the first part shows the term to match
pub received_few : (n : ℕ) (past : List Entry) (ms : Memories) (p : ℕ) → AllMatchEntries n past ms → length past ≤ 16777216 → (present_at ms p ≡ present_at ms p) × (option_map_or (λ m. length m.received) (present_at ms p) 0 ≤ 16777216)
received_few n past ms p fit short = (refl, grind (arith, received_fits, slice_get_past))

-- the number of messages that a process has received, by its memory, fits 32 bits
pub received_short : (r : Run) (process_memories read : List (Option ProcessMemory)) (p : ℕ) (o : Option (Bor ProcessMemory)) (m : Bor ProcessMemory) → IsRunData r (memories_in process_memories) → read ≡ process_memories → option_map memory_of (option_copied o) ≡ present_at (memories_in read) p → o ≡ Some m → vec_len m.now.received < 2 ^ 32
received_short r process_memories read p o m run_data same found is =
    let up : present_at (memories_in process_memories) p ≡ Some (memory_of m.now) = ap (λ xs. present_at (memories_in xs) p) (sym same) ∙ sym found ∙ ap (λ x. option_map memory_of (option_copied x)) is in
    let few = (received_few r.recording.processes r.recording.past (memories_in process_memories) p run_data.fit (formed_short r.recording run_data.formed).entries).1 in
    let count = ap (λ x. option_map_or (λ (k : Memory). length k.received) x 0) up in
    omega (arith, few, count, m.now.received.ok.0)

-- a message that is kept for q exists, and is addressed to q
pub kept_found : (q : Pid) (o : Option SentMessage) (k : SentMessage) → if_addressed_to q o ≡ Some k → (o ≡ Some k) × (same_pid k.to q ≡ true)
kept_found q o k h = grind arith

-- the number of messages that a process keeps is that of its memory
pub sent_there : (process_memories : List (Option ProcessMemory)) (p : ℕ) (c : Option ProcessMemory) → p < length process_memories → c ≡ get_or process_memories p c → option_map_or (λ m. length m.sent) (present_at (memories_in process_memories) p) 0 ≡ option_map_or (λ m. length m.sent) (option_map memory_of c) 0
sent_there process_memories p c h is = grind (arith, slice_get-map, read_at)

-- a process has sent no more messages than there are entries
sent_fits : (past : List Entry) (p : ℕ) (o : Option Memory) → MatchesEntriesAt past p o → length past ≤ 16777216 → option_map_or (λ m. length m.sent) o 0 ≤ 16777216
sent_fits past p o h h2 = grind (arith, sends_few)

-- no process keeps more messages than a trace may have entries
pub sent_few : (n : ℕ) (past : List Entry) (ms : Memories) (p : ℕ) → AllMatchEntries n past ms → length past ≤ 16777216 → option_map_or (λ m. length m.sent) (present_at ms p) 0 ≤ 16777216
sent_few n past ms p fit short = grind (arith, sent_fits, slice_get_past)
