-- The effect of a delivery, or of the sends of a step, on a recording and on a memory.
use Rattle.std.specs.Prelude.{◌≡◌, ◌≢◌, ◌+◌, ℕ, true, List, ◌∷◌, length, Option, Some, None, slice_set}
use Rattle.std.specs.FinMap as fin
use Rattle.causal_name.specs.declared.Pid.{Pid}
use Rattle.causal_name.specs.declared.Det.{Det}
use Rattle.causal_process.specs.declared.message.Outgoing.{Outgoing}
use Rattle.causal_log.specs.declared.batch.Item.{Item}
use Rattle.causal_log.specs.Logs.{LogMap, dets_of}
use Rattle.causal_trace.specs.declared.entry.Entry.{Entry}
use Rattle.causal_trace.specs.declared.entry.Entry.TheVariants.{Send, Deliver}
use Rattle.causal_trace.specs.Rows.{Recording, first_fault, are_delivered}
use Rattle.causal_trace.specs.State.{with_entry}
use Rattle.causal_protocol.specs.declared.request.Request.{Request}
use Rattle.causal_protocol.specs.declared.request.Request.TheVariants as Requests
use Rattle.causal_protocol.specs.Memory.{Memory, Memories, with_sent_message, with_received}
use Rattle.causal_protocol.specs.Steps.{sends_of, append_all}
use Rattle.causal_memory.specs.declared.delivery_plan.DeliveryPlan.{DeliveryPlan}
use Rattle.causal_core.specs.View.{receivers}
use Rattle.causal_core.specs.Inside.Memories.{memory_at, keep_all}
use Rattle.causal_core.specs.Inside.MemoryInvariant.{MatchesEntriesAt}

-- the entry is legal as the next one
abbrev pub IsLegalNext : Recording → Entry → Type 0
IsLegalNext r e = first_fault r.processes r.past e ≡ None

-- every determinant in the log is of a delivery in the entries, including this one
abbrev pub IsLogDelivered : List Entry → Entry → LogMap → Type 0
IsLogDelivered past e log = are_delivered (e ∷ past) (fin.keys log) ≡ true

-- each memory of a process other than q that matches the old entries matches the new ones
abbrev pub OthersStillFit : ℕ → List Entry → List Entry → Type 0
OthersStillFit q old new = (p : ℕ) (m : Option Memory) → p ≢ q → MatchesEntriesAt old p m → MatchesEntriesAt new p m

-- determinants that were delivered in the old entries are delivered in the new ones
abbrev pub StayDelivered : List Entry → List Entry → Type 0
StayDelivered old new = (ds : List Det) → are_delivered old ds ≡ true → are_delivered new ds ≡ true

-- the recording with one more send of q, whose memory this is
abbrev pub with_send : Recording → Pid → Pid → Memory → Recording
with_send r q to m = with_entry r (Send q to (length m.sent))

-- q's memory after that send
abbrev pub keep_send : Recording → Pid → List Item → Memory → Memory
keep_send r to batch m = with_sent_message to (length r.past) batch m

-- the recording with those sends of q that are to processes
abbrev pub with_sends : Recording → Pid → List Outgoing → Memory → Recording
with_sends r q sends m = record { processes = r.processes; past = append_all (sends_of q (length m.sent) (receivers r.processes sends)) r.past }

-- q's memory after those sends
abbrev pub keep_sends : Recording → List Item → List Outgoing → Memory → Memory
keep_sends r batch sends m = keep_all (length r.past) batch (receivers r.processes sends) m

-- the request of a delivery to q of the message that the plan is for
abbrev pub delivery_request_of : Pid → DeliveryPlan → Request
delivery_request_of q g = Requests.Deliver q g.own.source g.own.ssn

-- the entry of the planned delivery to q
abbrev pub planned_entry : Pid → DeliveryPlan → Entry
planned_entry q g = Deliver q g.send g.own.rsn g.listed

-- every determinant that the sends carry is of a delivery in the entries, including the planned one
abbrev pub IsBatchDelivered : List Entry → Pid → DeliveryPlan → Type 0
IsBatchDelivered past q g = are_delivered (planned_entry q g ∷ past) (dets_of g.next_share) ≡ true

-- the recording with the planned delivery to q and its sends
abbrev pub with_step : Recording → Pid → DeliveryPlan → List Outgoing → Memory → Recording
with_step r q g sends m = with_sends (with_entry r (planned_entry q g)) q sends m

-- q's memory after the planned delivery and its sends
abbrev pub memory_after_step : Recording → DeliveryPlan → List Outgoing → Memory → Memory
memory_after_step r g sends m = keep_all (length r.past + 1) g.next_share (receivers r.processes sends) (with_received g.piggyback g.own m)

-- the memories of all processes after the planned delivery to q and its sends
abbrev pub memories_after_step : Recording → Pid → DeliveryPlan → List Outgoing → Memories → Memories
memories_after_step r q g sends ms = slice_set ms q.0 (Some (memory_after_step r g sends (memory_at ms q.0)))
