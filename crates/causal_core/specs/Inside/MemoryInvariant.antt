-- The invariant of run data: each memory matches the entries of the trace.
use Rattle.std.specs.Prelude.{◌≡◌, ℕ, ◌<◌, true, false, List, length, Option, Some, None, slice_get}
use Rattle.std.specs.List.{list_any}
use Rattle.std.specs.FinMap as fin
use Rattle.causal_name.specs.declared.Pid.{Pid}
use Rattle.causal_name.specs.declared.MsgName.{MsgName}
use Rattle.causal_name.specs.Names.{same_message, is_ascending}
use Rattle.causal_trace.specs.declared.entry.Entry.{Entry}
use Rattle.causal_trace.specs.declared.entry.Entry.TheVariants.{Send}
use Rattle.causal_trace.specs.Past.{entry_at, is_down, sends, deliveries, has_delivered}
use Rattle.causal_trace.specs.Rows.{are_delivered, IsWellFormed}
use Rattle.causal_log.specs.Logs.{dets_of}
use Rattle.causal_protocol.specs.Memory.{SentMessage, Memory, Memories, present_at}
use Rattle.causal_protocol.specs.Naming.{has_received}
use Rattle.causal_protocol.specs.Run.{Run, memories_of}

-- a kept message of p is the one of its send entry; its batch is ascending, and every determinant in it was delivered
pub record IsSentAt (past : List Entry) (p ssn : ℕ) (k : SentMessage) : Type 0 where
  pub source : Pid
  pub source_is : source.0 ≡ p
  pub sent : entry_at past k.send ≡ Some (Send source k.to ssn)
  pub ascending : is_ascending (dets_of k.batch) ≡ true
  pub delivered : are_delivered past (dets_of k.batch) ≡ true

-- the memory of the up process p matches the entries
pub record MatchesEntries (past : List Entry) (p : ℕ) (m : Memory) : Type 0 where
  pub up : is_down past p ≡ false
  pub sent : length m.sent ≡ sends past p
  pub count : length m.received ≡ deliveries past p
  pub received : (k : MsgName) → has_delivered past p k ≡ list_any (λ r. same_message r k) m.received
  pub logged : are_delivered past (fin.keys m.log) ≡ true
  pub placed : (ssn : ℕ) (k : SentMessage) → slice_get m.sent ssn ≡ Some k → IsSentAt past p ssn k

-- the memory of an up process matches the entries, or the process is down in them
abbrev pub MatchesEntriesAt : List Entry → ℕ → Option Memory → Type 0
MatchesEntriesAt past p (Some m) = MatchesEntries past p m
MatchesEntriesAt past p None = is_down past p ≡ true

-- the entries and the memories agree on what q's current lane has received
abbrev pub SameReceived : List Entry → Memories → Pid → Type 0
SameReceived past ms q = (k : MsgName) → has_delivered past q.0 k ≡ has_received ms q k

-- there is one memory for each of n processes, and each matches the entries
pub record AllMatchEntries (n : ℕ) (past : List Entry) (ms : Memories) : Type 0 where
  pub count : length ms ≡ n
  pub each : (p : ℕ) → p < n → MatchesEntriesAt past p (present_at ms p)

-- the memories are those of the run, match its entries, and the recording is well-formed
pub record IsRunData (r : Run) (ms : Memories) : Type 0 where
  pub same : ms ≡ memories_of r
  pub fit : AllMatchEntries r.recording.processes r.recording.past ms
  pub formed : IsWellFormed r.recording
