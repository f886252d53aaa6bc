-- The bytes of each parcel: fields of fixed widths, the most significant byte first.
use Rattle.std.specs.Prelude.{ℕ, Bool, true, false, List, [], ◌∷◌, ◌++◌, length}
use Rattle.std.specs.List.{flat_map}
use Rattle.std.specs.Int.{Width, w16, w32, w64, to_be_bytes}
use Rattle.std.specs.Ordering.{nat_cmp}
use Rattle.std.specs.FinSet as set
use Rattle.causal_holders.specs.Members.{ascending}
use Rattle.causal_name.specs.declared.Det.{Det}
use Rattle.causal_wire.specs.declared.parcel.RunId.{RunId}
use Rattle.causal_wire.specs.declared.parcel.Head.{Head}
use Rattle.causal_wire.specs.declared.parcel.ParcelItem.{ParcelItem}
use Rattle.causal_wire.specs.declared.parcel.LogEntry.{LogEntry}
use Rattle.causal_wire.specs.Parcels.{Contents, message, acknowledgement, question, answer, own_number, not_up}

-- one byte
abbrev pub byte : ℕ → List ℕ
byte b = b ∷ []

-- a number of this width
unfoldable pub number_bytes : Width → ℕ → List ℕ
number_bytes w n = to_be_bytes w n

-- the run: its number, the number of processes, and the bound on failures
abbrev pub run_bytes : RunId → List ℕ
run_bytes run = number_bytes w64 run.id ++ (number_bytes w16 run.processes ++ number_bytes w16 run.f)

-- source, ssn, dest, rsn
abbrev pub det_bytes : Det → List ℕ
det_bytes d = byte d.source.0 ++ (number_bytes w32 d.ssn ++ (byte d.dest.0 ++ number_bytes w32 d.rsn))

-- how many processes there are, then each of them, in ascending order
abbrev pub others_bytes : set.FinSet nat_cmp → List ℕ
others_bytes s = byte (length (ascending s)) ++ ascending s

abbrev pub item_bytes : ParcelItem → List ℕ
item_bytes item = det_bytes item.det ++ others_bytes item.others

abbrev pub flag_byte : Bool → ℕ
flag_byte false = 0
flag_byte true = 1

abbrev pub entry_bytes : LogEntry → List ℕ
entry_bytes entry = item_bytes entry.item ++ byte (flag_byte entry.stable)

-- how many there are, then each
abbrev pub list_bytes : {A : Type 0} → (A → List ℕ) → List A → List ℕ
list_bytes bytes_of xs = number_bytes w32 (length xs) ++ flat_map bytes_of xs

-- how many bytes there are, then these
abbrev pub body_bytes : List ℕ → List ℕ
body_bytes body = number_bytes w32 (length body) ++ body

-- the number of each process
abbrev pub view_bytes : List ℕ → List ℕ
view_bytes view = flat_map (number_bytes w32) view

-- the number of each kind of parcel
abbrev pub kind_byte : Contents → ℕ
kind_byte (message ssn items body) = 0
kind_byte (acknowledgement items) = 1
kind_byte (question round view) = 2
kind_byte (answer round entries) = 3
kind_byte (own_number round) = 4
kind_byte (not_up round) = 5

abbrev pub contents_bytes : Contents → List ℕ
contents_bytes (message ssn items body) = number_bytes w32 ssn ++ (list_bytes item_bytes items ++ body_bytes body)
contents_bytes (acknowledgement items) = list_bytes item_bytes items
contents_bytes (question round view) = number_bytes w64 round ++ view_bytes view
contents_bytes (answer round entries) = number_bytes w64 round ++ list_bytes entry_bytes entries
contents_bytes (own_number round) = number_bytes w64 round
contents_bytes (not_up round) = number_bytes w64 round

-- source, destination, lane and clock
abbrev pub route_bytes : Head → List ℕ
route_bytes head = byte head.source.0 ++ (byte head.dest.0 ++ (number_bytes w32 head.lane ++ number_bytes w64 head.clock))

-- the version of the format, the kind, the run and the route
abbrev pub head_bytes : RunId → ℕ → Head → List ℕ
head_bytes run kind head = byte 1 ++ (byte kind ++ (run_bytes run ++ route_bytes head))

-- the bytes of a parcel of a run
abbrev pub parcel_bytes : RunId → Head × Contents → List ℕ
parcel_bytes run parcel = head_bytes run (kind_byte parcel.1) parcel.0 ++ contents_bytes parcel.1
