-- Messages that are sent again after a restart.
use Rattle.std.specs.Prelude.{ℕ, Bool, false, ◌==◌, ◌&&◌, List, take}
use Rattle.std.specs.List.{list_any}
use Rattle.causal_name.specs.declared.Pid.{Pid}
use Rattle.causal_trace.specs.declared.entry.Entry.{Entry}
use Rattle.causal_trace.specs.declared.entry.Entry.TheVariants.{Send}
use Rattle.causal_picture.specs.declared.marks.MarkEvent.{MarkEvent}
use Rattle.causal_picture.specs.declared.marks.MarkEvent.TheVariants as shown
use Rattle.causal_picture.specs.declared.marks.Mark.{Mark}

-- whether an entry sends the message with this sender and ssn
abbrev pub sends_message : Pid → ℕ → Entry → Bool
sends_message from ssn (Send other to number) = (other.0 == from.0) && (number == ssn)
sends_message from ssn _ = false

-- whether an entry before a position sends the message with this sender and ssn
abbrev pub was_sent : List Entry → ℕ → Pid → ℕ → Bool
was_sent entries position from ssn = list_any (sends_message from ssn) (take position entries)

-- whether the event at a position sends a message again, or delivers one that was sent again. Within a lane
-- (incarnation) no message is sent twice, so the sender has restarted in between.
abbrev pub resent_by : List Entry → ℕ → MarkEvent → Bool
resent_by entries position (shown.Send from to ssn) = was_sent entries position from ssn
resent_by entries position (shown.Delivery det send) = was_sent entries send det.source det.ssn
resent_by entries position _ = false

-- whether a mark sends a message again, or delivers one that was sent again
abbrev pub is_resent : List Entry → Mark → Bool
is_resent entries m = resent_by entries m.position m.event
