-- The volatile memory of an up process: its log, and what its present lane has sent and received.
-- A lane is one incarnation. The senders' memories of messages are the network; what a message carries is chosen at
-- its send (Alvisi and Marzullo 1998).
use Rattle.std.specs.Prelude.{ℕ, List, [], ◌∷◌, ◌++◌, Option, slice_get, slice_set}
use Rattle.std.specs.Option.{option_map, option_map_or, option_and_then}
use Rattle.causal_name.specs.declared.Pid.{Pid}
use Rattle.causal_name.specs.declared.MsgName.{MsgName}
use Rattle.causal_name.specs.declared.Det.{Det}
use Rattle.causal_name.specs.Names.{message_of}
use Rattle.causal_log.specs.declared.batch.Item.{Item}
use Rattle.causal_log.specs.Knowledge.{held_by}
use Rattle.causal_log.specs.Logs.{LogMap, after_learn, after_absorb, batch_items}

-- a message in its sender's memory: its receiver, the position of its send entry, and what it carries
pub record SentMessage : Type 0 where
  pub to : Pid
  pub send : ℕ
  pub batch : List Item

-- the memory of an up process: its log, the messages that its lane has sent (by ssn), and the names of those that it
-- has received (by rsn)
pub record Memory : Type 0 where
  pub log : LogMap
  pub sent : List SentMessage
  pub received : List MsgName

-- the memory of each process, by number; `None` for a down process
abbrev pub Memories : Type 0
Memories = List (Option Memory)

-- the memory of a process that begins or restarts with this log
abbrev pub new_memory : LogMap → Memory
new_memory log = record { log = log; sent = []; received = [] }

-- the element at an index, if the list has one and it is not `None`
abbrev pub present_at : {X : Type 0} → List (Option X) → ℕ → Option X
present_at xs p = option_and_then (λ x. x) (slice_get xs p)

-- the memories after p's memory is changed, if p is up
abbrev pub update_at : (Memory → Memory) → Memories → ℕ → Memories
update_at g ms p = slice_set ms p (option_map g (present_at ms p))

-- a memory with one more sent message, its send position and what it carries
abbrev pub with_sent_message : Pid → ℕ → List Item → Memory → Memory
with_sent_message to send batch m = record { log = m.log; sent = m.sent ++ record { to = to; send = send; batch = batch } ∷ []; received = m.received }

-- the memory after a send: the message carries what the log chooses for f
abbrev pub with_sent : ℕ → Pid → ℕ → Memory → Memory
with_sent f to send m = with_sent_message to send (batch_items f m.log) m

-- a log after a delivery: it has learned what the message carries, and that the receiver holds the delivery's own
-- determinant
abbrev pub log_after_delivery : List Item → Det → LogMap → LogMap
log_after_delivery batch own log = after_learn (after_absorb batch own.source own.dest log) own (held_by own.dest)

-- the memory after a delivery with this determinant of a message that carries this batch
abbrev pub with_received : List Item → Det → Memory → Memory
with_received batch own m = record { log = log_after_delivery batch own m.log; sent = m.sent; received = m.received ++ message_of own ∷ [] }

-- a memory with a changed log
abbrev pub with_log : (LogMap → LogMap) → Memory → Memory
with_log g m = record { log = g m.log; sent = m.sent; received = m.received }

-- the message of that name that its sender's present lane has sent, if any
abbrev pub sent_message_of : Memories → MsgName → Option SentMessage
sent_message_of ms name = option_and_then (λ m. slice_get m.sent name.ssn) (present_at ms name.source.0)

-- what the message of that name carries
abbrev pub batch_of : Memories → MsgName → List Item
batch_of ms name = option_map_or (λ k. k.batch) (sent_message_of ms name) []
