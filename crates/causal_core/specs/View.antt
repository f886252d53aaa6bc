-- The view of run data: a run with bodies and reserved capacities, and how a delivery or restart extends it.
use Rattle.std.specs.Prelude.{◌≡◌, ℕ, nat_lt, List, [], ◌∷◌, ◌++◌, map, filter, reverse, Option, Some, None, unwrap_or, slice_get, slice_set, Result, Ok, Err, if◌then◌else◌, not, is_some}
use Rattle.std.specs.Option.{option_map}
use Rattle.causal_name.specs.declared.Pid.{Pid}
use Rattle.causal_name.specs.declared.MsgName.{MsgName}
use Rattle.causal_process.specs.declared.message.Outgoing.{Outgoing}
use Rattle.causal_trace.specs.Rows.{Recording}
use Rattle.causal_protocol.specs.Memory.{Memory, present_at}
use Rattle.causal_protocol.specs.Run.{Run, memories_of, stable_of}
use Rattle.causal_name.specs.Names.{message_of}
use Rattle.causal_protocol.specs.declared.request.CoreFault.{CoreFault}
use Rattle.causal_protocol.specs.declared.request.CoreFault.TheVariants as Faults
use Rattle.causal_protocol.specs.declared.request.Request.{Request}
use Rattle.causal_protocol.specs.declared.request.Request.TheVariants as Requests
use Rattle.causal_trace.specs.declared.entry.Entry.TheVariants as Entries
use Rattle.causal_protocol.specs.Refusals.{fault_if, first_fault_in, request_fault, restart_list}
use Rattle.causal_protocol.specs.Naming.{next_det, next_ssn}
use Rattle.causal_memory.specs.ProcessMemories.{Capacity}
use Rattle.causal_protocol.specs.Steps.{delivery_entry, extend_run, reason_of, sends_of}

-- a run, the bodies of the kept messages, and the reserved capacities, which are not part of the run
pub record RunDataState : Type 0 where
  pub run : Run
  pub bodies : List (List (List ℕ))
  pub spare : ℕ
  pub capacities : List Capacity
  pub stable_capacity : ℕ

-- the run with this recording, bound f and writers of its stable entries, given oldest first
abbrev pub run_from : Recording → ℕ → List Pid → Run
run_from recording faults writers = record { recording = recording; faults = faults; writers = reverse writers }

-- the sends to processes below n; the others are dropped
abbrev pub sends_to_processes : ℕ → List Outgoing → List Outgoing
sends_to_processes n sends = filter (λ s. nat_lt s.to.0 n) sends

-- the receivers of the sends to processes below n
abbrev pub receivers : ℕ → List Outgoing → List Pid
receivers n sends = map (λ s. s.to) (sends_to_processes n sends)

-- the bodies of the sends to processes below n
abbrev pub sent_bodies : ℕ → List Outgoing → List (List ℕ)
sent_bodies n sends = map (λ s. s.body) (sends_to_processes n sends)

-- the bodies of the sends to processes of the run
abbrev pub sent_in : Run → List Outgoing → List (List ℕ)
sent_in r sends = sent_bodies r.recording.processes sends

-- the run after a delivery to q of the named message, and the sends of that step
abbrev pub with_delivery : Run → Pid → MsgName → List Outgoing → Run
with_delivery r q m sends =
    extend_run r (Requests.Deliver q m.source m.ssn) (delivery_entry r q m ∷ sends_of q (next_ssn (memories_of r) q) (receivers r.recording.processes sends))

-- the run after a restart of p, and the sends of that step
abbrev pub with_restart : Run → Pid → List Outgoing → Run
with_restart r p sends = extend_run r (Requests.Restart p) (Entries.Restart p (restart_list r p) ∷ sends_of p 0 (receivers r.recording.processes sends))

-- the body of number `ssn` among the bodies that a process keeps; empty if there is none
abbrev pub body_in : List (List ℕ) → ℕ → List ℕ
body_in bodies ssn = unwrap_or (slice_get bodies ssn) []

-- the body of the named message among all kept bodies; empty if there is none
abbrev pub body_at : List (List (List ℕ)) → MsgName → List ℕ
body_at bodies name = body_in (unwrap_or (slice_get bodies name.source.0) []) name.ssn

-- the result of `Core::named` for q, by its memory if it is up
abbrev pub named_message_if_up : Run → Pid → Option Memory → Result (Option MsgName) CoreFault
named_message_if_up r q None = Err Faults.Down
named_message_if_up r q (Some m) = Ok (option_map message_of (next_det (stable_of r) q m))

-- the result of `Core::named` for q: the message of its next delivery, or the refusal
abbrev pub named_message_of : Run → Pid → Result (Option MsgName) CoreFault
named_message_of r q = if nat_lt q.0 r.recording.processes then named_message_if_up r q (present_at (memories_of r) q.0) else Err Faults.NoProcess

-- the fault of a refused request is the first refusal that applies, or `NoMemory` if none does
abbrev pub IsFirstRefusal : Run → Request → CoreFault → Type 0
IsFirstRefusal r request fault = request_fault r request ≡ reason_of fault

-- the first refusal that applies to a gathering for p
abbrev pub gathering_fault : Run → Pid → Option CoreFault
gathering_fault r p =
    first_fault_in (fault_if (not (nat_lt p.0 r.recording.processes)) Faults.NoProcess ∷ fault_if (is_some (present_at (memories_of r) p.0)) Faults.NotDown ∷ [])

-- all kept bodies after q keeps these too
abbrev pub with_bodies : List (List (List ℕ)) → ℕ → List (List ℕ) → List (List (List ℕ))
with_bodies bodies q more = slice_set bodies q (unwrap_or (slice_get bodies q) [] ++ more)
