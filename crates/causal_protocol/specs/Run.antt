-- A run, and the memory of each process after it.
-- After `Log(e)` and `Stable(e)` of Elnozahy, Alvisi, Wang and Johnson 2002, as far as each process knows them.
-- Memories have this meaning only for runs made of legal steps.
use Rattle.std.specs.Prelude.{ℕ, List, [], ◌∷◌, length, replicate, drop, Option, None, Some, slice_get, slice_set}
use Rattle.std.specs.FinMap as fin
use Rattle.causal_name.specs.declared.Pid.{Pid}
use Rattle.causal_name.specs.declared.MsgName.{MsgName}
use Rattle.causal_trace.specs.declared.entry.Entry.{Entry}
use Rattle.causal_trace.specs.declared.entry.Entry.TheVariants.{Send, Deliver, Stable, Crash, Restart, Forget}
use Rattle.causal_trace.specs.Past.{message_at, det_from}
use Rattle.causal_trace.specs.Rows.{Recording}
use Rattle.causal_log.specs.Logs.{after_mark}
use Rattle.causal_log.specs.Stores.{DetSet}
use Rattle.causal_protocol.specs.Memory.{Memory, Memories, new_memory, update_at, with_sent, with_received, with_log, batch_of}
use Rattle.causal_protocol.specs.Gathering.{stable_set, restart_log, without_dets}

-- the memories after a message of that name, if there is one, is delivered
abbrev pub after_receive : Memories → Pid → ℕ → Option MsgName → Memories
after_receive ms to rsn None = ms
after_receive ms to rsn (Some name) = update_at (with_received (batch_of ms name) (det_from to rsn name)) ms to.0

-- the memories after a flush of this process, if there is one, wrote a determinant, which the process then knows to
-- be stable
abbrev pub after_stable : Memories → Option Pid → (Memory → Memory) → Memories
after_stable ms None g = ms
after_stable ms (Some p) g = update_at g ms p.0

-- the memories after one more entry; a stable entry was written by the flush of this process
abbrev pub memories_after : ℕ → Option Pid → List Entry → Entry → Memories → Memories
memories_after f by past (Send from to ssn) ms = update_at (with_sent f to (length past)) ms from.0
memories_after f by past (Deliver to send rsn listed) ms = after_receive ms to rsn (message_at past send)
memories_after f by past (Stable det) ms = after_stable ms by (with_log (λ log. after_mark log det))
memories_after f by past (Crash who) ms = slice_set ms who.0 None
memories_after f by past (Restart who listed) ms = slice_set ms who.0 (Some (new_memory (restart_log ms (stable_set past) who)))
memories_after f by past (Forget who listed) ms = update_at (with_log (without_dets listed)) ms who.0

-- the writers of the stable entries older than an entry
abbrev pub older_writers : Entry → List Pid → List Pid
older_writers (Stable det) writers = drop 1 writers
older_writers _ writers = writers

-- the memories of n processes after these entries, for the bound f; the writers are the processes whose flushes wrote
-- the stable entries, newest first
unfoldable pub memories : ℕ → ℕ → List Pid → List Entry → Memories
memories n f writers [] = replicate n (Some (new_memory fin.empty))
memories n f writers (e ∷ past) = memories_after f (slice_get writers 0) past e (memories n f (older_writers e writers) past)

-- a run: a recording, the bound f, and the processes whose flushes wrote the stable entries, newest first
pub record Run : Type 0 where
  pub recording : Recording
  pub faults : ℕ
  pub writers : List Pid

abbrev pub memories_of : Run → Memories
memories_of r = memories r.recording.processes r.faults r.writers r.recording.past

abbrev pub stable_of : Run → DetSet
stable_of r = stable_set r.recording.past
