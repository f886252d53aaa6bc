-- The event that a picture shows for each entry.
use Rattle.std.specs.Prelude.{◌≡◌, ℕ, List, length, map, Option, Some}
use Rattle.std.specs.List.{filter_map, range_with_len}
use Rattle.std.specs.Option.{option_map, option_and_then}
use Rattle.causal_name.specs.declared.Pid.{Pid}
use Rattle.causal_trace.specs.declared.entry.Entry.{Entry}
use Rattle.causal_trace.specs.declared.entry.Entry.TheVariants.{Send, Deliver, Stable, Crash, Restart, Forget}
use Rattle.causal_trace.specs.Past.{entry_at, message_at, det_from}
use Rattle.causal_picture.specs.declared.marks.MarkEvent.{MarkEvent}
use Rattle.causal_picture.specs.declared.marks.MarkEvent.TheVariants as shown
use Rattle.causal_picture.specs.declared.marks.Mark.{Mark}
use Rattle.causal_picture.specs.declared.entry_range.EntryRange.{EntryRange}

-- the process on whose line an event is shown; for a stable determinant, its receiver
abbrev pub mark_process : MarkEvent → Pid
mark_process (shown.Send from to ssn) = from
mark_process (shown.Delivery det send) = det.dest
mark_process (shown.Stable det) = det.dest
mark_process (shown.Crash who) = who
mark_process (shown.Restart who) = who
mark_process (shown.Forget who count) = who

-- a delivery, with its determinant
abbrev pub delivery_mark : List Entry → Pid → ℕ → ℕ → Option MarkEvent
delivery_mark past to send rsn = option_map (λ m. shown.Delivery (det_from to rsn m) send) (message_at past send)

-- the event of an entry; none for a delivery whose send does not exist
abbrev pub mark_event_of : List Entry → Entry → Option MarkEvent
mark_event_of past (Send from to ssn) = Some (shown.Send from to ssn)
mark_event_of past (Deliver to send rsn listed) = delivery_mark past to send rsn
mark_event_of past (Stable det) = Some (shown.Stable det)
mark_event_of past (Crash who) = Some (shown.Crash who)
mark_event_of past (Restart who listed) = Some (shown.Restart who)
mark_event_of past (Forget who listed) = Some (shown.Forget who (length listed))

-- the event of the entry at a position
abbrev pub mark_at : List Entry → ℕ → Option Mark
mark_at past position = option_map (λ what. record { position = position; event = what }) (option_and_then (mark_event_of past) (entry_at past position))

-- the events of a range's entries, in order
abbrev pub marks_of : List Entry → EntryRange → List Mark
marks_of past s = filter_map (mark_at past) (range_with_len s.first s.count)

-- these are the marks of all entries in the range, one for each, in order
abbrev pub HasAllMarks : EntryRange → List Mark → Type 0
HasAllMarks s marks = map (λ (m : Mark). m.position) marks ≡ range_with_len s.first s.count
