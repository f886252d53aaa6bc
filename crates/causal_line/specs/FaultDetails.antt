-- The values that explain an error, for a parsed line that follows a recording.
use Rattle.std.specs.Prelude.{◌≡◌, ◌≢◌, ℕ, false, List, length, Some}
use Rattle.std.specs.List.{Contains}
use Rattle.causal_name.specs.declared.Det.{Det}
use Rattle.causal_name.specs.declared.Pid.{Pid}
use Rattle.causal_trace.specs.declared.entry.Entry.{Entry}
use Rattle.causal_trace.specs.declared.entry.Entry.TheVariants as entry
use Rattle.causal_trace.specs.Past.{sends, deliveries, is_sent_to, message_at, det_of, det_at, is_det, mentioned_dets}
use Rattle.causal_trace.specs.Rows.{Recording}
use Rattle.causal_line.specs.declared.kind.TextKind.{TextKind}
use Rattle.causal_line.specs.declared.kind.TextKind.TheVariants as kind
use Rattle.causal_line.specs.declared.parsed_line.ParsedLine.{ParsedLine}
use Rattle.causal_line.specs.declared.parsed_line.ParsedLine.TheVariants as parsed
use Rattle.causal_line.specs.declared.fault_details.FaultDetail.{FaultDetail}
use Rattle.causal_line.specs.declared.fault_details.FaultDetail.TheVariants as detail
use Rattle.causal_line.specs.Deliveries.{delivery_position}

-- the error kind that the values explain
abbrev pub kind_of_detail : FaultDetail → TextKind
kind_of_detail (detail.Ssn process given next) = kind.WrongSsn
kind_of_detail (detail.Send position process) = kind.NoSend
kind_of_detail (detail.Rsn process given next) = kind.WrongRsn
kind_of_detail (detail.Again process message position) = kind.Doubled
kind_of_detail (detail.Undelivered det) = kind.NoDelivery
kind_of_detail (detail.Entries given entries) = kind.Count

-- a send whose number is not the next one of its sender's present lane (incarnation)
abbrev pub IsWrongSsn : Recording → ParsedLine → Pid → ℕ → ℕ → Type 0
IsWrongSsn r parsed_line process given next =
    (to : Pid) × (parsed_line ≡ parsed.Entry (entry.Send process to given)) × (next ≡ sends r.past process.0) × (given ≢ next)

-- a delivery by this process of the send at this position, with this rsn
abbrev pub IsDeliveryLine : ParsedLine → Pid → ℕ → ℕ → Type 0
IsDeliveryLine parsed_line process send rsn = (listed : List Det) × (parsed_line ≡ parsed.Entry (entry.Deliver process send rsn listed))

-- a delivery that does not name an earlier send to its receiver
abbrev pub NamesNoSend : Recording → ParsedLine → ℕ → Pid → Type 0
NamesNoSend r parsed_line position process =
    (rsn : ℕ) × (listed : List Det) × (parsed_line ≡ parsed.Entry (entry.Deliver process position rsn listed)) × (is_sent_to r.past position process.0 ≡ false)

-- a delivery whose number is not the next one of its receiver's present lane
abbrev pub IsWrongRsn : Recording → ParsedLine → Pid → ℕ → ℕ → Type 0
IsWrongRsn r parsed_line process given next =
    (send : ℕ) × (listed : List Det) × (parsed_line ≡ parsed.Entry (entry.Deliver process send given listed)) × (next ≡ deliveries r.past process.0) × (given ≢ next)

-- neither a delivery so far nor the next entry has the determinant
abbrev pub IsUndelivered : List Entry → Entry → Det → Type 0
IsUndelivered past e det = (is_det (det_of past e) det ≡ false) × ((k : ℕ) → det_at past k ≢ Some det)

-- the values are true of the parsed line after the recording
abbrev pub IsFaultDetail : Recording → ParsedLine → FaultDetail → Type 0
IsFaultDetail r parsed_line (detail.Ssn process given next) = IsWrongSsn r parsed_line process given next
IsFaultDetail r parsed_line (detail.Send position process) = NamesNoSend r parsed_line position process
IsFaultDetail r parsed_line (detail.Rsn process given next) = IsWrongRsn r parsed_line process given next
-- a delivery of a message that its receiver's present lane has delivered at that position
IsFaultDetail r parsed_line (detail.Again process message position) =
    (send : ℕ) × (rsn : ℕ) × (listed : List Det) × (parsed_line ≡ parsed.Entry (entry.Deliver process send rsn listed)) × (message_at r.past send ≡ Some message) × (delivery_position r.past process.0 message ≡ Some position)
-- an entry that mentions a determinant which neither a delivery so far nor the entry itself has
IsFaultDetail r parsed_line (detail.Undelivered det) = (e : Entry) × (parsed_line ≡ parsed.Entry e) × Contains (mentioned_dets e) det × IsUndelivered r.past e det
-- an end line whose number is not the number of entries
IsFaultDetail r parsed_line (detail.Entries given entries) = (parsed_line ≡ parsed.End given) × (entries ≡ length r.past) × (given ≢ entries)
