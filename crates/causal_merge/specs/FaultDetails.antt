-- The values that explain an error of an event, by the entry that the event becomes and the send that it names.
-- Lists have the newest first.
use Rattle.std.specs.Prelude.{◌||◌, not, Bool, List, Option, Some, None, option_map}
use Rattle.std.specs.List.{find}
use Rattle.causal_name.specs.declared.Det.{Det}
use Rattle.causal_trace.specs.declared.entry.Entry.{Entry}
use Rattle.causal_trace.specs.declared.entry.Entry.TheVariants as entry
use Rattle.causal_trace.specs.Past.{sends, deliveries, det_of, is_det, is_delivered, mentioned_dets}
use Rattle.causal_line.specs.declared.kind.TextKind.{TextKind}
use Rattle.causal_line.specs.declared.kind.TextKind.TheVariants.{WrongSsn, NoSend, WrongRsn, Doubled, NoDelivery}
use Rattle.causal_merge.specs.declared.event.Action.{Action}
use Rattle.causal_merge.specs.declared.event.Action.TheVariants as action
use Rattle.causal_merge.specs.declared.fault.MergeKind.{MergeKind}
use Rattle.causal_merge.specs.declared.fault.MergeKind.TheVariants as kind
use Rattle.causal_merge.specs.declared.fault_details.MergeDetail.{MergeDetail}
use Rattle.causal_merge.specs.declared.fault_details.MergeDetail.TheVariants as detail
use Rattle.causal_merge.specs.declared.sends.SendName.{SendName}

-- the send that a delivery names; None for another event
abbrev pub name_of : Action → Option SendName
name_of (action.Deliver source lane ssn rsn listed) = Some (record { source = source; lane = lane; ssn = ssn })
name_of _ = None

-- of a send: its sender, its number, and the next one of the sender's present lane (incarnation)
abbrev pub ssn_detail : List Entry → Entry → Option MergeDetail
ssn_detail past (entry.Send from to ssn) = Some (detail.Ssn from ssn (sends past from.0))
ssn_detail past _ = None

-- of a delivery: its receiver, its number, and the next one of the receiver's present lane
abbrev pub rsn_detail : List Entry → Entry → Option MergeDetail
rsn_detail past (entry.Deliver to send rsn listed) = Some (detail.Rsn to rsn (deliveries past to.0))
rsn_detail past _ = None

-- of a delivery: its receiver, and the send that it names
abbrev pub send_detail : Entry → Option SendName → Option MergeDetail
send_detail (entry.Deliver to send rsn listed) (Some name) = Some (detail.Send to name)
send_detail _ _ = None

-- of a delivery: its receiver, and the message that it names
abbrev pub again_detail : Entry → Option SendName → Option MergeDetail
again_detail (entry.Deliver to send rsn listed) (Some name) = Some (detail.Again to (record { source = name.source; ssn = name.ssn }))
again_detail _ _ = None

-- whether a determinant is neither `own` nor that of a delivery
abbrev pub is_undelivered : List Entry → Option Det → Det → Bool
is_undelivered past own d = not (is_det own d || is_delivered past d)

-- the first determinant that an entry mentions although neither it nor a delivery before it has that determinant
abbrev pub undelivered_detail : List Entry → Entry → Option MergeDetail
undelivered_detail past e = option_map detail.Undelivered (find (is_undelivered past (det_of past e)) (mentioned_dets e))

-- the values that explain an error of this kind; None if the kind is enough
abbrev pub line_detail : TextKind → List Entry → Entry → Option SendName → Option MergeDetail
line_detail WrongSsn past e name = ssn_detail past e
line_detail NoSend past e name = send_detail e name
line_detail WrongRsn past e name = rsn_detail past e
line_detail Doubled past e name = again_detail e name
line_detail NoDelivery past e name = undelivered_detail past e
line_detail _ past e name = None

-- `line_detail` for any kind
abbrev pub merge_detail_of : MergeKind → List Entry → Entry → Option SendName → Option MergeDetail
merge_detail_of (kind.Line k) past e name = line_detail k past e name
merge_detail_of _ past e name = None
