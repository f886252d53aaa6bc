-- Entries in C's layout, and the traces to which they are pushed.
use Rattle.std.specs.Prelude.{◌≡◌, ◌==◌, ℕ, List, [], ◌∷◌, map, if◌then◌else◌, Option, Some, None}
use Rattle.causal_trace.specs.declared.entry.Entry.{Entry}
use Rattle.causal_trace.specs.declared.entry.Entry.TheVariants.{Send, Deliver, Stable, Crash, Restart, Forget}
use Rattle.causal_trace.specs.declared.fault.TraceFault.{TraceFault}
use Rattle.causal_trace.specs.Rows.{Recording, fault_within}
use Rattle.causal_trace.specs.State.{with_entry}
use Rattle.causal_line.specs.Kinds.{text_kind_of}
use Rattle.nixu.specs.declared.handle_content.HandleContent.{HandleContent}
use Rattle.nixu.specs.declared.handle_content.HandleContent.TheVariants.{Reader, Trace}
use Rattle.nixu_boundary.specs.declared.c_determinant.CDeterminant.{CDeterminant}
use Rattle.nixu_boundary.specs.Determinants.{det_from_c}
use Rattle.nixu.specs.declared.c_entry.CEntry.{CEntry}
use Rattle.nixu.specs.Numbers.{kind_number}

-- the entry, if its kind lists no determinants
abbrev pub plain_entry : CEntry → Option Entry
plain_entry s =
    if s.kind == 0 then Some (Send (record { 0 = s.source }) (record { 0 = s.dest }) s.ssn)
    else if s.kind == 2 then Some (Stable (record { source = record { 0 = s.source }; ssn = s.ssn; dest = record { 0 = s.dest }; rsn = s.rsn }))
    else if s.kind == 3 then Some (Crash (record { 0 = s.who }))
    else None

-- the entry, if its kind lists determinants
abbrev pub listing_entry : CEntry → List CDeterminant → Option Entry
listing_entry s listed =
    if s.kind == 1 then Some (Deliver (record { 0 = s.dest }) s.send s.rsn (map det_from_c listed))
    else if s.kind == 4 then Some (Restart (record { 0 = s.who }) (map det_from_c listed))
    else if s.kind == 5 then Some (Forget (record { 0 = s.who }) (map det_from_c listed))
    else None

-- the first entry if no determinants are listed; else the second
abbrev pub plain_or_listing : Option Entry → Option Entry → List CDeterminant → Option Entry
plain_or_listing (Some e) listing [] = Some e
plain_or_listing (Some e) listing (d ∷ ds) = None
plain_or_listing None listing listed = listing

-- the entry in a C struct with its listed determinants; None if the kind is unknown, or determinants are listed for a
-- kind that lists none
abbrev pub entry_from_c : CEntry → List CDeterminant → Option Entry
entry_from_c s listed = plain_or_listing (plain_entry s) (listing_entry s listed) listed

-- the recording of the open trace; None if none is open
abbrev pub recording_in : Option HandleContent → Option Recording
recording_in (Some (Trace t limits)) = Some t.recording
recording_in (Some (Reader s)) = None
recording_in None = None

-- the maximum number of entries of the open trace; 0 if none is open
abbrev pub entry_limit_in : Option HandleContent → ℕ
entry_limit_in (Some (Trace t limits)) = limits.entries
entry_limit_in (Some (Reader s)) = 0
entry_limit_in None = 0

-- the entry is valid after the recording with at most `most` entries, and is then its last
abbrev pub CanPush : ℕ → Recording → Option Entry → Recording → Type 0
CanPush most r entry after = (e : Entry) × (entry ≡ Some e) × (fault_within most r e ≡ None) × (after ≡ with_entry r e)

-- the number of the first error of the entry
abbrev pub IsFaultNumberOf : ℕ → Recording → Option Entry → ℕ → Type 0
IsFaultNumberOf most r entry number = (e : Entry) × (entry ≡ Some e) × ((fault : TraceFault) × (fault_within most r e ≡ Some fault) × (number ≡ kind_number (text_kind_of fault)))

-- a trace is open, and its recording satisfies the predicate
abbrev pub OfTrace : Option HandleContent → (Recording → Type 0) → Type 0
OfTrace (Some (Trace t limits)) IsTrue = IsTrue t.recording
OfTrace (Some (Reader s)) IsTrue = ⊥
OfTrace None IsTrue = ⊥

-- a trace is open, and pushing the entry is valid and leads to the second recording
abbrev pub CanPushIn : ℕ → Option Recording → Option Entry → Option Recording → Type 0
CanPushIn most (Some r) entry (Some after) = CanPush most r entry after
CanPushIn most before entry after = ⊥

-- a trace is open, and this is the number of the first error of the entry
abbrev pub IsFaultNumberIn : ℕ → Option Recording → Option Entry → ℕ → Type 0
IsFaultNumberIn most (Some r) entry number = IsFaultNumberOf most r entry number
IsFaultNumberIn most None entry number = ⊥
