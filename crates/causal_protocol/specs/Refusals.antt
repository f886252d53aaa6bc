-- Why a request is refused: its rows of faults in order, decided without memory.
use Rattle.std.specs.Prelude.{ℕ, ◌+◌, Bool, not, ◌&&◌, ◌||◌, nat_lt, nat_le, List, [], ◌∷◌, length, Option, None, Some, is_some, is_none, count_by, if◌then◌else◌}
use Rattle.std.specs.Option.{option_map_or}
use Rattle.std.specs.FinMap as fin
use Rattle.causal_name.specs.declared.Pid.{Pid}
use Rattle.causal_name.specs.declared.MsgName.{MsgName}
use Rattle.causal_name.specs.declared.Det.{Det}
use Rattle.causal_name.specs.Names.{same_message}
use Rattle.causal_trace.specs.Limits.{default_restarts}
use Rattle.causal_protocol.specs.Limits.{max_run_entries, max_run_listed}
use Rattle.causal_trace.specs.Past.{listed_in, restarts}
use Rattle.causal_log.specs.Logs.{stable_in, unstable_in}
use Rattle.causal_protocol.specs.declared.request.Request.{Request}
use Rattle.causal_protocol.specs.declared.request.Request.TheVariants as Requests
use Rattle.causal_protocol.specs.declared.request.CoreFault.{CoreFault}
use Rattle.causal_protocol.specs.declared.request.CoreFault.TheVariants as Faults
use Rattle.causal_protocol.specs.Memory.{present_at}
use Rattle.causal_protocol.specs.Gathering.{restart_log}
use Rattle.causal_protocol.specs.Run.{Run, memories_of, stable_of}
use Rattle.causal_protocol.specs.Naming.{message_name, named_for, sent_message_for, has_received, listed_for}

-- what a restart of p lists: all that up processes log or that is stored, ascending
abbrev pub restart_list : Run → Pid → List Det
restart_list r p = fin.keys (restart_log (memories_of r) (stable_of r) p)

-- what a flush of p writes: what p logs and does not know to be stable, ascending
abbrev pub dets_to_flush : Run → Pid → List Det
dets_to_flush r p = option_map_or (λ m. unstable_in m.log) (present_at (memories_of r) p.0) []

-- what p forgets: what it knows to be stable, ascending
abbrev pub dets_to_forget : Run → Pid → List Det
dets_to_forget r p = option_map_or (λ m. stable_in m.log) (present_at (memories_of r) p.0) []

-- whether a number of further entries would exceed the limit; whether they, with what they list, would exceed a limit
abbrev pub exceeds_entries : Run → ℕ → Bool
exceeds_entries r entries = nat_lt max_run_entries (length r.recording.past + entries)

abbrev pub exceeds_limits : Run → ℕ → ℕ → Bool
exceeds_limits r entries listed = exceeds_entries r entries || nat_lt max_run_listed (listed_in r.recording.past + listed)

-- this fault if the test holds
abbrev pub fault_if : Bool → CoreFault → Option CoreFault
fault_if test fault = if test then Some fault else None

-- the fault `MustReplay` if another message than the requested one is named
abbrev pub fault_unless_named : MsgName → Option MsgName → Option CoreFault
fault_unless_named asked None = None
fault_unless_named asked (Some m) = if same_message m asked then None else Some (Faults.MustReplay m)

-- how many processes are down
abbrev pub count_down : Run → ℕ
count_down r = count_by is_none (memories_of r)

-- The rows of a request, in the order in which they are checked: each is a fault if it holds, else `None`.
unfoldable pub request_refusals : Run → Request → List (Option CoreFault)
request_refusals r (Requests.Deliver q source ssn) =
    fault_if (not (nat_lt q.0 r.recording.processes && nat_lt source.0 r.recording.processes)) Faults.NoProcess
    ∷ fault_if (is_none (present_at (memories_of r) q.0)) Faults.Down
    ∷ fault_unless_named (message_name source ssn) (named_for (memories_of r) (stable_of r) q)
    ∷ fault_if (is_none (sent_message_for (memories_of r) q (message_name source ssn))) Faults.NotAvailable
    ∷ fault_if (has_received (memories_of r) q (message_name source ssn)) Faults.AlreadyDelivered
    ∷ fault_if (exceeds_limits r 9 (length (listed_for (memories_of r) q (message_name source ssn)))) Faults.Full
    ∷ []
request_refusals r (Requests.Crash p) =
    fault_if (not (nat_lt p.0 r.recording.processes)) Faults.NoProcess
    ∷ fault_if (is_none (present_at (memories_of r) p.0)) Faults.Down
    ∷ fault_if (nat_le r.faults (count_down r)) Faults.OverFaults
    ∷ fault_if (exceeds_entries r 1) Faults.Full
    ∷ []
request_refusals r (Requests.Restart p) =
    fault_if (not (nat_lt p.0 r.recording.processes)) Faults.NoProcess
    ∷ fault_if (is_some (present_at (memories_of r) p.0)) Faults.NotDown
    ∷ fault_if (exceeds_limits r 9 (length (restart_list r p)) || nat_le default_restarts (restarts r.recording.past)) Faults.Full
    ∷ []
request_refusals r (Requests.Flush p) =
    fault_if (not (nat_lt p.0 r.recording.processes)) Faults.NoProcess
    ∷ fault_if (is_none (present_at (memories_of r) p.0)) Faults.Down
    ∷ fault_if (exceeds_entries r (length (dets_to_flush r p))) Faults.Full
    ∷ []
request_refusals r (Requests.Forget p) =
    fault_if (not (nat_lt p.0 r.recording.processes)) Faults.NoProcess
    ∷ fault_if (is_none (present_at (memories_of r) p.0)) Faults.Down
    ∷ fault_if (nat_lt 0 (length (dets_to_forget r p)) && exceeds_limits r 1 (length (dets_to_forget r p))) Faults.Full
    ∷ []

-- the fault of the first row that holds
abbrev pub first_fault_in : List (Option CoreFault) → Option CoreFault
first_fault_in [] = None
first_fault_in (Some fault ∷ rest) = Some fault
first_fault_in (None ∷ rest) = first_fault_in rest

-- the first fault of a request; `None` if it is not refused
abbrev pub request_fault : Run → Request → Option CoreFault
request_fault r request = first_fault_in (request_refusals r request)
