-- The fields of facts: in a line ` name=value`, in a JSON object the member `,"name":value`.
use Rattle.std.specs.Prelude.{ℕ, List, [], ◌++◌, codes, decimal}
use Rattle.causal_name.specs.declared.Det.{Det}
use Rattle.causal_facts.specs.declared.cause.Cause.{Cause}
use Rattle.causal_facts.specs.declared.cause.Cause.TheVariants as cause
use Rattle.causal_facts.specs.declared.process_fact.LostBy.{LostBy}
use Rattle.causal_facts.specs.declared.process_fact.LostBy.TheVariants as lost
use Rattle.causal_facts.specs.declared.stray.Stray.{Stray}
use Rattle.causal_facts.specs.declared.event.ChainEvent.{ChainEvent}
use Rattle.causal_facts.specs.declared.event.ChainEvent.TheVariants.{Send, Delivery, Other}
use Rattle.causal_facts.specs.declared.fact.Fact.{Fact}
use Rattle.causal_facts.specs.declared.fact.Fact.TheVariants as fact
use Rattle.causal_facts.specs.declared.form.Form.{Form}
use Rattle.causal_facts.specs.declared.form.Form.TheVariants.{Lines, Json}
use Rattle.causal_trace.specs.Past.{line_at}
use Rattle.causal_answers.specs.Places.{line_before}

-- ---- fields

-- a field with a number
unfoldable pub json_number : Form → List ℕ → ℕ → List ℕ
json_number Lines name n = codes " " ++ (name ++ (codes "=" ++ decimal n))
json_number Json name n = codes ",\"" ++ (name ++ (codes "\":" ++ decimal n))

-- a field with a word
unfoldable pub word : Form → List ℕ → List ℕ → List ℕ
word Lines name text = codes " " ++ (name ++ (codes "=" ++ text))
word Json name text = codes ",\"" ++ (name ++ (codes "\":\"" ++ (text ++ codes "\"")))

-- a field without a value: `-`, in JSON null
unfoldable pub empty_field : Form → List ℕ → List ℕ
empty_field Lines name = codes " " ++ (name ++ codes "=-")
empty_field Json name = codes ",\"" ++ (name ++ codes "\":null")

-- the beginning of an object, whose first member is a word
unfoldable pub object_start : List ℕ → List ℕ → List ℕ
object_start name text = codes "{\"" ++ (name ++ (codes "\":\"" ++ (text ++ codes "\"")))

-- the field of a line of the trace's text
abbrev pub line : Form → ℕ → List ℕ
line form n = json_number form (codes "line") n

-- the field of a process
abbrev pub process_field : Form → ℕ → List ℕ
process_field form p = json_number form (codes "process") p

-- ---- fields of values

-- a process, and the line of the entry at a position
abbrev pub process_line_fields : Form → ℕ → ℕ → List ℕ
process_line_fields form p position = process_field form p ++ line form (line_at position)

-- the message of a determinant, and the receive sequence number
abbrev pub det_fields : Form → Det → List ℕ
det_fields form det = json_number form (codes "source") det.source.0 ++ (json_number form (codes "ssn") det.ssn ++ json_number form (codes "rsn") det.rsn)

-- the process of the entry by which an instant fails
abbrev pub cause_process : Cause → ℕ
cause_process (cause.Delivery process send) = process
cause_process (cause.Restart process) = process
cause_process (cause.Forgetting process) = process
cause_process (cause.Crash process) = process

-- the word for that entry
abbrev pub cause_word : Cause → List ℕ
cause_word (cause.Delivery process send) = codes "deliver"
cause_word (cause.Restart process) = codes "restart"
cause_word (cause.Forgetting process) = codes "forget"
cause_word (cause.Crash process) = codes "crash"

-- the word for the entry by which a process loses a determinant
abbrev pub loss_word : LostBy → List ℕ
loss_word lost.Crash = codes "crash"
loss_word lost.Forgetting = codes "forget"

-- the process of an event
abbrev pub event_process_field : Form → ChainEvent → List ℕ
event_process_field form (Send from to ssn) = process_field form from
event_process_field form (Delivery to send) = process_field form to
event_process_field form Other = []

-- the line of the send and the process of a delivery
abbrev pub arrival_fields : Form → ChainEvent → List ℕ
arrival_fields form (Delivery to send) = json_number form (codes "send") (line_at send) ++ process_field form to
arrival_fields form _ = []

-- an event of a chain, by its position
abbrev pub event_fields : Form → ℕ → ChainEvent → List ℕ
event_fields form position event = line form (line_at position) ++ event_process_field form event

-- a delivery after which a determinant is missing, by its position
abbrev pub unlisted_fields : Form → ℕ → ChainEvent → List ℕ
unlisted_fields form position event = line form (line_at position) ++ arrival_fields form event

-- the two deliveries of a stray
abbrev pub stray_deliveries : Form → Stray → List ℕ
stray_deliveries form stray = json_number form (codes "first") stray.first ++ json_number form (codes "second") stray.second

-- a stray: the instant, the slot, and the two deliveries
abbrev pub stray_fields : Form → Stray → List ℕ
stray_fields form stray =
    json_number form (codes "instant") stray.instant ++ (process_field form stray.slot.dest.0 ++ (json_number form (codes "rsn") stray.slot.rsn ++ stray_deliveries form stray))

-- ---- fields of facts

-- the fields of a fact
abbrev pub fields_of : Form → Fact → List ℕ
fields_of form (fact.Down down) = process_line_fields form down.process down.since
fields_of form (fact.Delivery delivery det) = line form (line_at delivery) ++ (process_field form det.dest.0 ++ det_fields form det)
fields_of form (fact.Cause instant cause) = line form (line_before instant) ++ (process_field form (cause_process cause) ++ word form (codes "by") (cause_word cause))
fields_of form (fact.Unstable instant) = line form (line_before instant)
fields_of form (fact.Holder holding) = process_line_fields form holding.process holding.since
fields_of form fact.NoHolder = empty_field form (codes "process")
fields_of form (fact.Loss loss) = process_line_fields form loss.process loss.lost ++ word form (codes "by") (loss_word loss.by)
fields_of form (fact.Crash p) = process_field form p
fields_of form (fact.Chain position event) = event_fields form position event
fields_of form (fact.Unlisted position event is_own) = unlisted_fields form position event
fields_of form fact.Listed = []
fields_of form (fact.Underway position send to) = json_number form (codes "send") (line_at send) ++ (line form (line_at position) ++ process_field form to)
fields_of form (fact.Orphan p) = process_field form p
fields_of form (fact.Closest closest) =
    json_number form (codes "faults") closest.faults ++ (line form (line_at closest.delivery)
    ++ (json_number form (codes "until") (line_before closest.instant) ++ json_number form (codes "orphan") closest.orphan))
fields_of form fact.Never = empty_field form (codes "faults")
fields_of form (fact.Strayed stray) = stray_fields form stray
fields_of form (fact.Logged delivery holding) = json_number form (codes "delivery") delivery ++ process_line_fields form holding.process holding.since
fields_of form (fact.Stable delivery) = json_number form (codes "delivery") delivery
