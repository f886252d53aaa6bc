-- Messages, slots, orders and equalities of determinants (Alvisi and Marzullo 1998).
use Rattle.std.specs.Prelude.{Bool, true, List, [], ◌∷◌, ◌==◌, ◌&&◌}
use Rattle.std.specs.Ordering.{nat_cmp, ordering_then, is_lt}
use Rattle.std.specs.declared.cmp.Ordering.{Ordering}
use Rattle.causal_name.specs.declared.Pid.{Pid}
use Rattle.causal_name.specs.declared.MsgName.{MsgName}
use Rattle.causal_name.specs.declared.Det.{Det}
use Rattle.causal_name.specs.declared.Slot.{Slot}

-- the message of a determinant
abbrev pub message_of : Det → MsgName
message_of d = record { source = d.source; ssn = d.ssn }

-- the slot of a determinant: its delivery's index among those of the receiver
abbrev pub slot_of : Det → Slot
slot_of d = record { dest = d.dest; rsn = d.rsn }

-- the order of processes, by number
abbrev pub pid_cmp : Pid → Pid → Ordering
pid_cmp a b = nat_cmp a.0 b.0

-- the order of messages, by source, then ssn
abbrev pub message_cmp : MsgName → MsgName → Ordering
message_cmp a b = ordering_then (pid_cmp a.source b.source) (nat_cmp a.ssn b.ssn)

-- the order of slots, by dest, then rsn
abbrev pub slot_cmp : Slot → Slot → Ordering
slot_cmp a b = ordering_then (pid_cmp a.dest b.dest) (nat_cmp a.rsn b.rsn)

-- the order of determinants, by source, ssn, dest and rsn
abbrev pub det_cmp : Det → Det → Ordering
det_cmp a b =
    ordering_then (pid_cmp a.source b.source)
    (ordering_then (nat_cmp a.ssn b.ssn) (ordering_then (pid_cmp a.dest b.dest) (nat_cmp a.rsn b.rsn)))

-- whether one determinant precedes another
abbrev pub is_before : Det → Det → Bool
is_before a b = is_lt (det_cmp a b)

-- whether each determinant precedes the next; such a list has no duplicates
abbrev pub is_ascending : List Det → Bool
is_ascending [] = true
is_ascending (d ∷ []) = true
is_ascending (d ∷ e ∷ ds) = is_before d e && is_ascending (e ∷ ds)

-- whether two processes are equal
abbrev pub same_pid : Pid → Pid → Bool
same_pid a b = a.0 == b.0

-- whether two messages are equal
abbrev pub same_message : MsgName → MsgName → Bool
same_message a b = same_pid a.source b.source && a.ssn == b.ssn

-- whether two slots are equal
abbrev pub same_slot : Slot → Slot → Bool
same_slot a b = same_pid a.dest b.dest && a.rsn == b.rsn

-- whether two determinants are equal
abbrev pub same_det : Det → Det → Bool
same_det a b = same_pid a.source b.source && (a.ssn == b.ssn && (same_pid a.dest b.dest && a.rsn == b.rsn))
