-- The messages that a process may deliver, whatever is named for its next delivery.
use Rattle.std.specs.Prelude.{◌≡◌, ℕ, ◌+◌, Bool, not, nat_lt, ◌&&◌, List, [], ◌∷◌, ◌++◌, length, map, filter, Option, is_none, is_some}
use Rattle.std.specs.List.{list_any, range_with_len}
use Rattle.std.specs.Option.{option_map_or}
use Rattle.causal_name.specs.declared.Pid.{Pid}
use Rattle.causal_name.specs.declared.MsgName.{MsgName}
use Rattle.causal_name.specs.Names.{same_message}
use Rattle.causal_protocol.specs.declared.request.CoreFault.{CoreFault}
use Rattle.causal_protocol.specs.declared.request.CoreFault.TheVariants as Faults
use Rattle.causal_protocol.specs.Memory.{Memory, Memories, present_at}
use Rattle.causal_protocol.specs.Run.{Run, memories_of}
use Rattle.causal_protocol.specs.Naming.{message_name, sent_message_for, has_received}
use Rattle.causal_protocol.specs.Refusals.{fault_if, first_fault_in}

-- whether the named message is kept for q and q's current lane has not received it
abbrev pub is_pending : Memories → Pid → MsgName → Bool
is_pending ms q m = is_some (sent_message_for ms q m) && not (has_received ms q m)

-- the names of the messages that a process's current lane has sent, by number; none if it is down
abbrev pub names_sent : ℕ → Option Memory → List MsgName
names_sent p m = map (message_name (record { 0 = p })) (range_with_len 0 (option_map_or (λ m. length m.sent) m 0))

-- the names of the messages sent by all processes from this number on, by process
abbrev pub names_from : ℕ → Memories → List MsgName
names_from p [] = []
names_from p (m ∷ ms) = names_sent p m ++ names_from (p + 1) ms

-- of all kept messages, by sender and number, those that are pending for q
abbrev pub pending_in : Memories → Pid → List MsgName
pending_in ms q = filter (is_pending ms q) (names_from 0 ms)

-- pending for q are exactly the messages that are kept for q and that q's current lane has not received
abbrev pub PendingIsExact : Type 0
PendingIsExact = (ms : Memories) (q : Pid) (m : MsgName) → list_any (same_message m) (pending_in ms q) ≡ is_pending ms q m

-- the first refusal that applies to a query for q's pending messages
abbrev pub pending_fault : Run → Pid → Option CoreFault
pending_fault r q = first_fault_in (fault_if (not (nat_lt q.0 r.recording.processes)) Faults.NoProcess ∷ fault_if (is_none (present_at (memories_of r) q.0)) Faults.Down ∷ [])
