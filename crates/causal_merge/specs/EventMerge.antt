-- The entries that events become, and the errors of events, in the merge order.
-- Lists have the newest first. `most` is the maximum number of entries.
use Rattle.std.specs.Prelude.{ℕ, ◌==◌, ◌&&◌, not, nat_lt, if◌then◌else◌, Bool, true, false, List, [], ◌∷◌, length, Option, Some, None, option_map, unwrap_or, Result, Ok, Err}
use Rattle.causal_name.specs.declared.Pid.{Pid}
use Rattle.causal_name.specs.declared.Det.{Det}
use Rattle.causal_trace.specs.declared.entry.Entry.{Entry}
use Rattle.causal_trace.specs.declared.entry.Entry.TheVariants as entry
use Rattle.causal_trace.specs.Past.{lane}
use Rattle.causal_trace.specs.Rows.{exceeds, fault_within}
use Rattle.causal_line.specs.declared.kind.TextKind.TheVariants.{TooLong, NoProcess}
use Rattle.causal_line.specs.Reading.{◌>>=◌}
use Rattle.causal_line.specs.Kinds.{text_kind_of}
use Rattle.causal_merge.specs.declared.event.Action.{Action}
use Rattle.causal_merge.specs.declared.event.Action.TheVariants.{Send, Deliver, Stable, Crash, Restart, Forget}
use Rattle.causal_merge.specs.declared.event.RecordedEvent.{RecordedEvent}
use Rattle.causal_merge.specs.declared.event.EventAtLine.{EventAtLine}
use Rattle.causal_merge.specs.declared.fault.MergeKind.{MergeKind}
use Rattle.causal_merge.specs.declared.fault.MergeKind.TheVariants as kind
use Rattle.causal_merge.specs.declared.fault.MergeFault.{MergeFault}
use Rattle.causal_merge.specs.declared.fault_details.MergeDetail.{MergeDetail}
use Rattle.causal_merge.specs.declared.sends.SendName.{SendName}
use Rattle.causal_merge.specs.FaultDetails.{name_of, merge_detail_of}

-- whether two names are those of one send
abbrev pub same_send : SendName → SendName → Bool
same_send a b = a.source.0 == b.source.0 && (a.lane == b.lane && a.ssn == b.ssn)

-- the position of the send with this source, lane (incarnation) and number
abbrev pub send_position : List Entry → SendName → Option ℕ
send_position [] name = None
send_position (entry.Send from to ssn ∷ past) name =
    if same_send (record { source = from; lane = lane past from.0; ssn = ssn }) name then Some (length past) else send_position past name
send_position (_ ∷ past) name = send_position past name

-- The entry that an event becomes after this past. A delivery whose send is missing gets its own position as that of
-- the send; no send is there.
abbrev pub event_entry : List Entry → Pid → Action → Entry
event_entry past p (Send to ssn) = entry.Send p to ssn
event_entry past p (Deliver source lane ssn rsn listed) =
    entry.Deliver p (unwrap_or (send_position past (record { source = source; lane = lane; ssn = ssn })) (length past)) rsn listed
event_entry past p (Stable det) = entry.Stable det
event_entry past p Crash = entry.Crash p
event_entry past p (Restart listed) = entry.Restart p listed
event_entry past p (Forget listed) = entry.Forget p listed

-- the determinants that an event lists
abbrev pub listed_by_action : Action → List Det
listed_by_action (Deliver source lane ssn rsn listed) = listed
listed_by_action (Restart listed) = listed
listed_by_action (Forget listed) = listed
listed_by_action _ = []

-- whether the other process that an act names, if any, is one of n
abbrev pub has_other : ℕ → Action → Bool
has_other n (Send to ssn) = nat_lt to.0 n
has_other n (Deliver source lane ssn rsn listed) = nat_lt source.0 n
has_other n _ = true

-- whether each process that an event names is one of n
abbrev pub has_processes : ℕ → RecordedEvent → Bool
has_processes n e = nat_lt e.process.0 n && has_other n e.act

-- whether the newest of these events has the clock and the process of the next one
abbrev pub is_duplicate : List EventAtLine → RecordedEvent → Bool
is_duplicate [] e = false
is_duplicate (last ∷ before) e = last.event.clock == e.clock && last.event.process.0 == e.process.0

-- the first error of the next event that does not depend on its entry, in the order of the checks
abbrev pub event_fault_before_push : ℕ → ℕ → List EventAtLine → List Entry → RecordedEvent → Option MergeKind
event_fault_before_push most n before past e =
    if is_duplicate before e then Some kind.Twice else
    if exceeds most past (length (listed_by_action e.act)) then Some (kind.Line TooLong) else
    if not (has_processes n e) then Some (kind.Line NoProcess) else
    None

-- the first of two errors, if there is one
abbrev pub first_fault_of : Option MergeKind → Option MergeKind → Option MergeKind
first_fault_of (Some k) later = Some k
first_fault_of None later = later

-- the first error of the next event: that one, or the error of its entry in a trace
abbrev pub event_fault : ℕ → ℕ → List EventAtLine → List Entry → RecordedEvent → Option MergeKind
event_fault most n before past e =
    first_fault_of (event_fault_before_push most n before past e) (option_map (λ f. kind.Line (text_kind_of f)) (fault_within most (record { processes = n; past = past }) (event_entry past e.process e.act)))

-- the values that explain an error of this kind in an event
abbrev pub event_detail : MergeKind → List Entry → RecordedEvent → Option MergeDetail
event_detail k past e = merge_detail_of k past (event_entry past e.process e.act) (name_of e.act)

-- the entries with that of one more event, or the event's error
abbrev pub with_event_entry : List Entry → EventAtLine → Option MergeKind → Result (List Entry) MergeFault
with_event_entry past e None = Ok (event_entry past e.event.process e.event.act ∷ past)
with_event_entry past e (Some k) = Err (record { line = e.line; kind = k; detail = event_detail k past e.event })

-- the entries of these events in a run of n processes; else the error of the oldest event that has one
abbrev pub merge_events_of : ℕ → ℕ → List EventAtLine → Result (List Entry) MergeFault
merge_events_of most n [] = Ok []
merge_events_of most n (e ∷ before) = merge_events_of most n before >>= λ past. with_event_entry past e (event_fault most n before past e.event)
