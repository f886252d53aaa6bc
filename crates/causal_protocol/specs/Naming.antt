-- Which message a process may deliver next, and what the delivery lists.
-- A process replays by delivering the messages that are named.
use Rattle.std.specs.Prelude.{ℕ, Bool, false, List, [], ◌∷◌, length, Option, None, Some, if◌then◌else◌}
use Rattle.std.specs.List.{list_any}
use Rattle.std.specs.Option.{option_map, option_map_or, option_and_then}
use Rattle.std.specs.declared.cmp.Ordering.{Ordering}
use Rattle.std.specs.declared.cmp.Ordering.TheVariants.{Less, Equal, Greater}
use Rattle.std.specs.FinMap as fin
use Rattle.causal_name.specs.declared.Pid.{Pid}
use Rattle.causal_name.specs.declared.MsgName.{MsgName}
use Rattle.causal_name.specs.declared.Det.{Det}
use Rattle.causal_name.specs.Names.{same_pid, same_message, is_before, det_cmp, message_of}
use Rattle.causal_trace.specs.Past.{det_from}
use Rattle.causal_log.specs.Slots.{first_of_slot}
use Rattle.causal_log.specs.Logs.{dets_of}
use Rattle.causal_log.specs.Stores.{DetSet, dets_in}
use Rattle.causal_protocol.specs.Memory.{SentMessage, Memory, Memories, present_at, sent_message_of, batch_of}

-- the name of the message with that sender and number
abbrev pub message_name : Pid → ℕ → MsgName
message_name source ssn = record { source = source; ssn = ssn }

-- how many messages q's present lane has sent, which is the next ssn; how many it has received, the next rsn
abbrev pub next_ssn : Memories → Pid → ℕ
next_ssn ms q = option_map_or (λ m. length m.sent) (present_at ms q.0) 0

abbrev pub next_rsn : Memories → Pid → ℕ
next_rsn ms q = option_map_or (λ m. length m.received) (present_at ms q.0) 0

-- the lesser of two determinants, if there are any
abbrev pub min_det : Option Det → Option Det → Option Det
min_det None other = other
min_det (Some d) None = Some d
min_det (Some d) (Some e) = if is_before e d then Some e else Some d

-- the least determinant of q's next delivery, in q's log or in stable storage
abbrev pub next_det : DetSet → Pid → Memory → Option Det
next_det stored q m = min_det (first_of_slot q (length m.received) (fin.keys m.log)) (first_of_slot q (length m.received) (dets_in stored))

-- the message that is named for q's next delivery, if any
abbrev pub named_for : Memories → DetSet → Pid → Option MsgName
named_for ms stored q = option_map message_of (option_and_then (next_det stored q) (present_at ms q.0))

-- a message, if it was sent to q
abbrev pub if_addressed_to : Pid → Option SentMessage → Option SentMessage
if_addressed_to q None = None
if_addressed_to q (Some k) = if same_pid k.to q then Some k else None

-- the message of that name that its sender's present lane has sent to q, if any
abbrev pub sent_message_for : Memories → Pid → MsgName → Option SentMessage
sent_message_for ms q message_name = if_addressed_to q (sent_message_of ms message_name)

-- the position of the message's send entry
abbrev pub send_of : Memories → MsgName → ℕ
send_of ms message_name = option_map_or (λ k. k.send) (sent_message_of ms message_name) 0

-- whether q's present lane has received a message of that name
abbrev pub has_received : Memories → Pid → MsgName → Bool
has_received ms q message_name = option_map_or (λ m. list_any (λ k. same_message k message_name) m.received) (present_at ms q.0) false

abbrev pub match_ordering : {X : Type 0} → Ordering → X → X → X → X
match_ordering Less a b c = a
match_ordering Equal a b c = b
match_ordering Greater a b c = c

-- an ascending list with one more determinant, inserted in order if it is not there yet
unfoldable pub with_own : Det → List Det → List Det
with_own own [] = own ∷ []
with_own own (d ∷ ds) = match_ordering (det_cmp own d) (own ∷ d ∷ ds) (d ∷ ds) (d ∷ with_own own ds)

-- the determinant of q's next delivery of a message; what that delivery lists: it and what the message carries
abbrev pub next_own_det : Memories → Pid → MsgName → Det
next_own_det ms q message_name = det_from q (next_rsn ms q) message_name

abbrev pub listed_for : Memories → Pid → MsgName → List Det
listed_for ms q message_name = with_own (next_own_det ms q message_name) (dets_of (batch_of ms message_name))
