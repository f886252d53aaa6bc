-- Reading from left to right: a value and the bytes after it, or the first error.
use Rattle.std.specs.Prelude.{◌≡◌, ℕ, zero, suc, ◌+◌, ◌^◌, Bool, true, false, ◌&&◌, ◌||◌, List, [], ◌∷◌, length, take, drop, Option, Some, None, Result, Ok, Err, nat_lt, nat_le, ◌==◌, if◌then◌else◌}
use Rattle.std.specs.Int.{Width, w16, w32, w64, byte_len, from_be_bytes}
use Rattle.std.specs.Ordering.{nat_cmp}
use Rattle.std.specs.FinSet as set
use Rattle.causal_name.specs.declared.Pid.{Pid}
use Rattle.causal_name.specs.declared.Det.{Det}
use Rattle.causal_name.specs.Names.{is_before}
use Rattle.causal_wire.specs.declared.fault.WireFault.{WireFault}
use Rattle.causal_wire.specs.declared.fault.WireFault.TheVariants as faults
use Rattle.causal_wire.specs.declared.fault.ParcelFault.{ParcelFault}
use Rattle.causal_wire.specs.declared.fault.ParcelFault.TheVariants as errors
use Rattle.causal_wire.specs.declared.fields.ParcelKind.{ParcelKind}
use Rattle.causal_wire.specs.declared.fields.ParcelKind.TheVariants as kinds
use Rattle.causal_wire.specs.declared.parcel.RunId.{RunId}
use Rattle.causal_wire.specs.declared.parcel.Head.{Head}
use Rattle.causal_wire.specs.declared.parcel.ParcelItem.{ParcelItem}
use Rattle.causal_wire.specs.declared.parcel.LogEntry.{LogEntry}
use Rattle.causal_wire.specs.Parcels.{Contents, message, acknowledgement, question, answer, own_number, not_up}

infixl 10 ◌>>=◌
abbrev pub ◌>>=◌ : {A B : Type 0} → Result A WireFault → (A → Result B WireFault) → Result B WireFault
(Ok x) >>= f = f x
(Err e) >>= f = Err e

-- a call that fails returns this error of the bytes, unless it is out of memory
abbrev pub Fails : {Y : Type 0} → ParcelFault → Result Y WireFault → Type 0
Fails errors.NoMemory read = Unit {0}
Fails (errors.Wire f) read = read ≡ Err f

-- a call returns what reading gives, unless it is out of memory
abbrev pub ReturnsRead : {X Y : Type 0} → (X → Y) → Result X ParcelFault → Result Y WireFault → Type 0
ReturnsRead view (Ok x) read = read ≡ Ok (view x)
ReturnsRead view (Err e) read = Fails e read

abbrev pub read_byte : List ℕ → Result (ℕ × List ℕ) WireFault
read_byte [] = Err faults.Short
read_byte (b ∷ rest) = Ok (b, rest)

-- a number, the most significant byte first
abbrev pub read_number : Width → List ℕ → Result (ℕ × List ℕ) WireFault
read_number w bytes = if nat_lt (length bytes) (byte_len w) then Err faults.Short else Ok (from_be_bytes w (take (byte_len w) bytes), drop (byte_len w) bytes)

-- this many bytes
abbrev pub read_bytes : ℕ → List ℕ → Result (List ℕ × List ℕ) WireFault
read_bytes count bytes = if nat_lt (length bytes) count then Err faults.Short else Ok (take count bytes, drop count bytes)

unfoldable pub read_version : List ℕ → Result (List ℕ) WireFault
read_version bytes = do
  version ← read_byte bytes
  if version.0 == 1 then Ok version.1 else Err faults.Version

abbrev pub parcel_kind : ℕ → Result ParcelKind WireFault
parcel_kind zero = Ok kinds.Message
parcel_kind (suc zero) = Ok kinds.Acknowledgement
parcel_kind (suc (suc zero)) = Ok kinds.Question
parcel_kind (suc (suc (suc zero))) = Ok kinds.Answer
parcel_kind (suc (suc (suc (suc zero)))) = Ok kinds.OwnNumber
parcel_kind (suc (suc (suc (suc (suc zero))))) = Ok kinds.NotUp
parcel_kind (suc (suc (suc (suc (suc (suc b)))))) = Err faults.Kind

unfoldable pub read_kind : List ℕ → Result (ParcelKind × List ℕ) WireFault
read_kind bytes = do
  number ← read_byte bytes
  kind ← parcel_kind number.0
  Ok (kind, number.1)

-- the run, which must be this one
unfoldable pub read_run : RunId → List ℕ → Result (List ℕ) WireFault
read_run run bytes = do
  id ← read_number w64 bytes
  processes ← read_number w16 id.1
  f ← read_number w16 processes.1
  if id.0 == run.id && (processes.0 == run.processes && f.0 == run.f) then Ok f.1 else Err faults.Run

-- a process below n
unfoldable pub read_process : ℕ → List ℕ → Result (Pid × List ℕ) WireFault
read_process n bytes = do
  number ← read_byte bytes
  if nat_lt number.0 n then Ok (record { 0 = number.0 }, number.1) else Err faults.Process

unfoldable pub read_clock : List ℕ → Result (ℕ × List ℕ) WireFault
read_clock bytes = do
  clock ← read_number w64 bytes
  if nat_lt clock.0 (2 ^ 62) then Ok clock else Err faults.Clock

unfoldable pub read_flag : List ℕ → Result (Bool × List ℕ) WireFault
read_flag [] = Err faults.Short
read_flag (zero ∷ rest) = Ok (false, rest)
read_flag (suc zero ∷ rest) = Ok (true, rest)
read_flag (suc (suc b) ∷ rest) = Err faults.Flag

-- source, destination, lane and clock
unfoldable pub read_route : ℕ → List ℕ → Result (Head × List ℕ) WireFault
read_route n bytes = do
  source ← read_process n bytes
  dest ← read_process n source.1
  lane ← read_number w32 dest.1
  clock ← read_clock lane.1
  Ok (record { source = source.0; dest = dest.0; lane = lane.0; clock = clock.0 }, clock.1)

unfoldable pub read_head : RunId → List ℕ → Result (ParcelKind × Head × List ℕ) WireFault
read_head run bytes = do
  version ← read_version bytes
  kind ← read_kind version
  same ← read_run run kind.1
  head ← read_route run.processes same
  Ok (kind.0, head.0, head.1)

unfoldable pub read_det : ℕ → List ℕ → Result (Det × List ℕ) WireFault
read_det n bytes = do
  source ← read_process n bytes
  ssn ← read_number w32 source.1
  dest ← read_process n ssn.1
  rsn ← read_number w32 dest.1
  Ok (record { source = source.0; ssn = ssn.0; dest = dest.0; rsn = rsn.0 }, rsn.1)

-- how many bytes there are, then these
unfoldable pub read_short_list : List ℕ → Result (List ℕ × List ℕ) WireFault
read_short_list bytes = do
  count ← read_byte bytes
  read_bytes count.0 count.1

unfoldable pub read_body : List ℕ → Result (List ℕ × List ℕ) WireFault
read_body bytes = do
  count ← read_number w32 bytes
  read_bytes count.0 count.1

-- the first error in holders from this least number on: below n, ascending, without the source
abbrev pub others_fault : ℕ → ℕ → ℕ → List ℕ → Option WireFault
others_fault n source least [] = None
others_fault n source least (p ∷ ps) =
    if nat_le n p then Some faults.Process
    else (if nat_lt p least || p == source then Some faults.Holder else others_fault n source (p + 1) ps)

abbrev pub unless : {A : Type 0} → Option WireFault → A → Result A WireFault
unless None x = Ok x
unless (Some e) x = Err e

-- the set of the holders that are listed
unfoldable pub others_of : ℕ → ℕ → List ℕ → Result (set.FinSet nat_cmp) WireFault
others_of n source listed = unless (others_fault n source 0 listed) (set.from_list listed)

-- whether a determinant follows the one before it, if there is one
abbrev pub follows : Option Det → Det → Bool
follows None d = true
follows (Some last) d = is_before last d

unfoldable pub parcel_item : ℕ → ℕ → Option Det → Det → List ℕ → Result ParcelItem WireFault
parcel_item n source last d listed =
    if follows last d then (others_of n source listed >>= λ others. Ok (record { det = d; others = others })) else Err faults.Unsorted

unfoldable pub read_det_and_listed : ℕ → List ℕ → Result (Det × List ℕ × List ℕ) WireFault
read_det_and_listed n bytes = do
  det ← read_det n bytes
  listed ← read_short_list det.1
  Ok (det.0, listed.0, listed.1)

-- an item that follows the determinant before it
unfoldable pub read_item : ℕ → ℕ → Option Det → List ℕ → Result (ParcelItem × List ℕ) WireFault
read_item n source last bytes = do
  det ← read_det_and_listed n bytes
  item ← parcel_item n source last det.0 det.1
  Ok (item, det.2)

unfoldable pub read_entry : ℕ → ℕ → Option Det → List ℕ → Result (LogEntry × List ℕ) WireFault
read_entry n source last bytes = do
  item ← read_item n source last bytes
  stable ← read_flag item.1
  Ok (record { item = item.0; stable = stable.0 }, stable.1)

-- this many, each read after the one before it
unfoldable pub read_list : {A S : Type 0} → (A → S) → (S → List ℕ → Result (A × List ℕ) WireFault) → S → ℕ → List ℕ → Result (List A × List ℕ) WireFault
read_list next read s zero bytes = Ok ([], bytes)
read_list next read s (suc n) bytes = do
  first ← read s bytes
  others ← read_list next read (next first.0) n first.1
  Ok (first.0 ∷ others.0, others.1)

abbrev pub item_det : ParcelItem → Option Det
item_det item = Some item.det

abbrev pub entry_det : LogEntry → Option Det
entry_det entry = Some entry.item.det

unfoldable pub read_items : ℕ → ℕ → List ℕ → Result (List ParcelItem × List ℕ) WireFault
read_items n source bytes = do
  count ← read_number w32 bytes
  read_list item_det (read_item n source) None count.0 count.1

unfoldable pub read_entries : ℕ → ℕ → List ℕ → Result (List LogEntry × List ℕ) WireFault
read_entries n source bytes = do
  count ← read_number w32 bytes
  read_list entry_det (read_entry n source) None count.0 count.1

-- a number of each process
abbrev pub nothing : ℕ → Unit {0}
nothing number = tt

abbrev pub read_next_number : Unit {0} → List ℕ → Result (ℕ × List ℕ) WireFault
read_next_number _ bytes = read_number w32 bytes

abbrev pub read_view : ℕ → List ℕ → Result (List ℕ × List ℕ) WireFault
read_view n bytes = read_list nothing read_next_number tt n bytes

-- the contents of a parcel of this kind, from this source
unfoldable pub read_contents : ℕ → ℕ → ParcelKind → List ℕ → Result (Contents × List ℕ) WireFault
read_contents n source kinds.Message bytes = do
  ssn ← read_number w32 bytes
  items ← read_items n source ssn.1
  body ← read_body items.1
  Ok (message ssn.0 items.0 body.0, body.1)
read_contents n source kinds.Acknowledgement bytes = do
  items ← read_items n source bytes
  Ok (acknowledgement items.0, items.1)
read_contents n source kinds.Question bytes = do
  round ← read_number w64 bytes
  view ← read_view n round.1
  Ok (question round.0 view.0, view.1)
read_contents n source kinds.Answer bytes = do
  round ← read_number w64 bytes
  entries ← read_entries n source round.1
  Ok (answer round.0 entries.0, entries.1)
read_contents n source kinds.OwnNumber bytes = do
  round ← read_number w64 bytes
  Ok (own_number round.0, round.1)
read_contents n source kinds.NotUp bytes = do
  round ← read_number w64 bytes
  Ok (not_up round.0, round.1)

-- a parcel of the run, which is all of the bytes
unfoldable pub read_parcel : RunId → List ℕ → Result (Head × Contents) WireFault
read_parcel run bytes = do
  head ← read_head run bytes
  contents ← read_contents run.processes head.1.source.0 head.0 head.2
  if length contents.1 == 0 then Ok (head.1, contents.0) else Err faults.Trailing
