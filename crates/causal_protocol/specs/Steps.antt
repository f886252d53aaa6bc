-- The legal steps of a run: what each call may append, and with which reply.
-- A call appends one entry with the sends of that step, or the stable entries of one flush, or nothing.
use Rattle.std.specs.Prelude.{◌≡◌, ℕ, ◌+◌, ◌<◌, ◌≤◌, true, nat_lt, List, [], ◌∷◌, ◌++◌, length, replicate, drop, take, map, Option, None, Some, Result, Ok, Err}
use Rattle.std.specs.List.{list_all, filter_map}
use Rattle.causal_name.specs.declared.Pid.{Pid}
use Rattle.causal_name.specs.declared.MsgName.{MsgName}
use Rattle.causal_name.specs.declared.Det.{Det}
use Rattle.causal_trace.specs.declared.entry.Entry.{Entry}
use Rattle.causal_trace.specs.declared.entry.Entry.TheVariants.{Send, Deliver, Stable, Crash, Restart, Forget}
use Rattle.causal_protocol.specs.declared.request.Request.{Request}
use Rattle.causal_protocol.specs.declared.request.Request.TheVariants as Requests
use Rattle.causal_protocol.specs.declared.request.Reply.{Reply}
use Rattle.causal_protocol.specs.declared.request.Reply.TheVariants as Replies
use Rattle.causal_protocol.specs.declared.request.Delivered.{Delivered}
use Rattle.causal_protocol.specs.declared.request.Restarted.{Restarted}
use Rattle.causal_protocol.specs.declared.request.FlushFault.{FlushFault}
use Rattle.causal_protocol.specs.declared.request.CoreFault.{CoreFault}
use Rattle.causal_protocol.specs.declared.request.CoreFault.TheVariants as Faults
use Rattle.causal_protocol.specs.Run.{Run, memories_of}
use Rattle.causal_protocol.specs.Naming.{message_name, next_ssn, next_rsn, send_of, next_own_det, listed_for}
use Rattle.causal_protocol.specs.Refusals.{request_fault, restart_list, dets_to_flush, dets_to_forget}

-- a past with these entries appended, one after the other
abbrev pub append_all : List Entry → List Entry → List Entry
append_all [] past = past
append_all (e ∷ es) past = append_all es (e ∷ past)

-- the writers of the stable entries among these: the process of a flush, once for each
abbrev pub writers_of : Request → List Entry → List Pid
writers_of (Requests.Flush p) appended = replicate (length appended) p
writers_of _ appended = []

-- the run with these entries of a request appended
abbrev pub extend_run : Run → Request → List Entry → Run
extend_run r request appended = record r {
  recording = record { processes = r.recording.processes; past = append_all appended r.recording.past };
  writers = writers_of request appended ++ r.writers;
}

-- the receiver of a send entry
abbrev pub receiver_of : Entry → Option Pid
receiver_of (Send from to ssn) = Some to
receiver_of _ = None

-- the send entries of q to these receivers, numbered from an ssn on
unfoldable pub sends_of : Pid → ℕ → List Pid → List Entry
sends_of q ssn [] = []
sends_of q ssn (to ∷ tos) = Send q to ssn ∷ sends_of q (ssn + 1) tos

-- exactly `number` sends of q, at most eight, with consecutive ssns from `ssn` on, to processes below n
pub record AreSends (n : ℕ) (q : Pid) (ssn number : ℕ) (entries : List Entry) : Type 0 where
  pub sends : entries ≡ sends_of q ssn (filter_map receiver_of entries)
  pub to : list_all (λ to. nat_lt to.0 n) (filter_map receiver_of entries) ≡ true
  pub count : length entries ≡ number
  pub few : number ≤ 8

-- the entry of q's delivery of a message
abbrev pub delivery_entry : Run → Pid → MsgName → Entry
delivery_entry r q message_name = Deliver q (send_of (memories_of r) message_name) (next_rsn (memories_of r) q) (listed_for (memories_of r) q message_name)

-- the entry of forgetting these determinants; none for an empty list
abbrev pub forget_entries : Pid → List Det → List Entry
forget_entries p [] = []
forget_entries p (d ∷ ds) = Forget p (d ∷ ds) ∷ []

-- the reason in a refusal: the fault itself, or none for out of memory, which comes only if no row holds
abbrev pub reason_of : CoreFault → Option CoreFault
reason_of Faults.NoMemory = None
reason_of fault = Some fault

-- the reason in a refused flush: none also for a store fault, which comes only if no row holds
abbrev pub flush_reason_of : CoreFault → Option CoreFault
flush_reason_of Faults.NoMemory = None
flush_reason_of Faults.StoreFault = None
flush_reason_of fault = Some fault

-- how many determinants a refused flush may have written: not all if out of memory, unless there are none; not all if
-- the store failed; none otherwise
abbrev pub IsPartialFlush : CoreFault → ℕ → ℕ → Type 0
IsPartialFlush Faults.NoMemory done all = (done ≤ all) × (0 < done → done < all)
IsPartialFlush Faults.StoreFault done all = done < all
IsPartialFlush fault done all = done ≡ 0

-- A call with this request and this reply appends these entries, in this order.
unfoldable pub LegalStep : Run → Request → Reply → List Entry → Type 0
LegalStep r (Requests.Deliver q source ssn) (Replies.Delivered d) appended =
    (request_fault r (Requests.Deliver q source ssn) ≡ None)
    × (d.first ≡ length r.recording.past)
    × (d.det ≡ next_own_det (memories_of r) q (message_name source ssn))
    × (appended ≡ delivery_entry r q (message_name source ssn) ∷ drop 1 appended)
    × AreSends r.recording.processes q (next_ssn (memories_of r) q) d.sends (drop 1 appended)
LegalStep r (Requests.Crash p) (Replies.Crashed first) appended =
    (request_fault r (Requests.Crash p) ≡ None) × (first ≡ length r.recording.past) × (appended ≡ Crash p ∷ [])
LegalStep r (Requests.Restart p) (Replies.Restarted d) appended =
    (request_fault r (Requests.Restart p) ≡ None)
    × (d.first ≡ length r.recording.past)
    × (d.listed ≡ length (restart_list r p))
    × (appended ≡ Restart p (restart_list r p) ∷ drop 1 appended)
    × AreSends r.recording.processes p 0 d.sends (drop 1 appended)
LegalStep r (Requests.Flush p) (Replies.Flushed count) appended =
    (request_fault r (Requests.Flush p) ≡ None) × (count ≡ length (dets_to_flush r p)) × (appended ≡ map Stable (dets_to_flush r p))
LegalStep r (Requests.Flush p) (Replies.FlushRefused f) appended =
    (request_fault r (Requests.Flush p) ≡ flush_reason_of f.fault)
    × IsPartialFlush f.fault f.done (length (dets_to_flush r p))
    × (appended ≡ map Stable (take f.done (dets_to_flush r p)))
LegalStep r (Requests.Flush p) reply appended = ⊥
LegalStep r (Requests.Forget p) (Replies.Forgotten count) appended =
    (request_fault r (Requests.Forget p) ≡ None) × (count ≡ length (dets_to_forget r p)) × (appended ≡ forget_entries p (dets_to_forget r p))
LegalStep r request (Replies.Refused fault) appended = (request_fault r request ≡ reason_of fault) × (appended ≡ [])
LegalStep r request reply appended = ⊥

-- a legal step leads from one run to the other
pub record Steps (old : Run) (request : Request) (reply : Reply) (new : Run) : Type 0 where
  pub appended : List Entry
  pub grown : new ≡ extend_run old request appended
  pub legal : LegalStep old request reply appended

-- the reply of a call, from what it returns
abbrev pub reply_of_delivery : Result Delivered CoreFault → Reply
reply_of_delivery (Ok d) = Replies.Delivered d
reply_of_delivery (Err fault) = Replies.Refused fault

abbrev pub reply_of_crash : Result ℕ CoreFault → Reply
reply_of_crash (Ok first) = Replies.Crashed first
reply_of_crash (Err fault) = Replies.Refused fault

-- the error of a refused restart has more than its fault, so its fault is given by a function
abbrev pub reply_of_restart : {E : Type 0} → (E → CoreFault) → Result Restarted E → Reply
reply_of_restart fault_of (Ok d) = Replies.Restarted d
reply_of_restart fault_of (Err e) = Replies.Refused (fault_of e)

abbrev pub reply_of_flush : Result ℕ FlushFault → Reply
reply_of_flush (Ok count) = Replies.Flushed count
reply_of_flush (Err f) = Replies.FlushRefused f

abbrev pub reply_of_forget : Result ℕ CoreFault → Reply
reply_of_forget (Ok count) = Replies.Forgotten count
reply_of_forget (Err fault) = Replies.Refused fault
