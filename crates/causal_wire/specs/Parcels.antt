-- Parcels as values, and which values are parcels of a run.
use Rattle.std.specs.Prelude.{◌≡◌, ℕ, ◌<◌, ◌≤◌, ◌^◌, true, false, List, length, map}
use Rattle.std.specs.List.{All, AllByRecursion}
use Rattle.std.specs.Ordering.{nat_cmp}
use Rattle.std.specs.FinSet as set
use Rattle.causal_name.specs.declared.Det.{Det}
use Rattle.causal_name.specs.Names.{is_ascending}
use Rattle.causal_wire.specs.declared.parcel.RunId.{RunId}
use Rattle.causal_wire.specs.declared.parcel.Head.{Head}
use Rattle.causal_wire.specs.declared.parcel.ParcelItem.{ParcelItem}
use Rattle.causal_wire.specs.declared.parcel.LogEntry.{LogEntry}
use Rattle.causal_wire.specs.declared.parcel.Content.{Content}
use Rattle.causal_wire.specs.declared.parcel.Content.TheVariants as contents
use Rattle.causal_wire.specs.declared.parcel.Parcel.{Parcel}

-- what a parcel contains besides its head, without its place in memory
pub data Contents : Type 0 where
  message : ℕ → List ParcelItem → List ℕ → Contents
  acknowledgement : List ParcelItem → Contents
  question : ℕ → List ℕ → Contents
  answer : ℕ → List LogEntry → Contents
  own_number : ℕ → Contents
  not_up : ℕ → Contents

abbrev pub contents_of : Content → Contents
contents_of (contents.Message ssn items body) = message ssn items.items body.items
contents_of (contents.Acknowledgement items) = acknowledgement items.items
contents_of (contents.Question round view) = question round view.items
contents_of (contents.Answer round entries) = answer round entries.items
contents_of (contents.OwnNumber round) = own_number round
contents_of (contents.NotUp round) = not_up round

-- a parcel as its head and its contents
abbrev pub parcel_value : Parcel → Head × Contents
parcel_value p = (p.head, contents_of p.content)

-- the determinants that items, or log entries, name
abbrev pub parcel_dets : List ParcelItem → List Det
parcel_dets items = map (λ item. item.det) items

abbrev pub entry_dets : List LogEntry → List Det
entry_dets entries = map (λ entry. entry.item.det) entries

-- a determinant of processes below n
pub record IsDet (n : ℕ) (d : Det) : Type 0 where
  pub source : d.source.0 < n
  pub ssn : d.ssn < 2 ^ 32
  pub dest : d.dest.0 < n
  pub rsn : d.rsn < 2 ^ 32

-- processes below n, which the source is not among
pub record AreOthers (n source : ℕ) (s : set.FinSet nat_cmp) : Type 0 where
  pub processes : (p : ℕ) → set.contains s p ≡ true → p < n
  pub others : set.contains s source ≡ false

-- a determinant that the source holds, with other holders
pub record IsItem (n source : ℕ) (item : ParcelItem) : Type 0 where
  pub det : IsDet n item.det
  pub others : AreOthers n source item.others

-- items by ascending determinant
pub record AreItems (n source : ℕ) (items : List ParcelItem) : Type 0 where
  pub each : AllByRecursion (IsItem n source) items
  pub ascending : is_ascending (parcel_dets items) ≡ true
  pub count : length items < 2 ^ 32

-- log entries by ascending determinant
pub record AreEntries (n source : ℕ) (entries : List LogEntry) : Type 0 where
  pub each : AllByRecursion (λ (entry : LogEntry). IsItem n source entry.item) entries
  pub ascending : is_ascending (entry_dets entries) ≡ true
  pub count : length entries < 2 ^ 32

-- a number of each process
pub record IsView (n : ℕ) (view : List ℕ) : Type 0 where
  pub each : AllByRecursion (λ number. number < 2 ^ 32) view
  pub count : length view ≡ n

-- contents that processes of a run of n send
abbrev pub AreContents : ℕ → ℕ → Contents → Type 0
AreContents n source (message ssn items body) = (ssn < 2 ^ 32) × AreItems n source items × (length body < 2 ^ 32)
AreContents n source (acknowledgement items) = AreItems n source items
AreContents n source (question round view) = (round < 2 ^ 64) × IsView n view
AreContents n source (answer round entries) = (round < 2 ^ 64) × AreEntries n source entries
AreContents n source (own_number round) = round < 2 ^ 64
AreContents n source (not_up round) = round < 2 ^ 64

-- a head that processes of a run of n send
pub record IsHead (n : ℕ) (head : Head) : Type 0 where
  pub source : head.source.0 < n
  pub dest : head.dest.0 < n
  pub lane : head.lane < 2 ^ 32
  pub clock : head.clock < 2 ^ 62

-- a run of at most 256 processes
pub record IsRun (run : RunId) : Type 0 where
  pub id : run.id < 2 ^ 64
  pub processes : run.processes ≤ 256
  pub f : run.f < 2 ^ 16

-- a parcel of a run
pub record IsParcel (run : RunId) (parcel : Head × Contents) : Type 0 where
  pub head : IsHead run.processes parcel.0
  pub contents : AreContents run.processes parcel.0.source.0 parcel.1

-- no item, or no log entry, has the source among its other holders
abbrev pub AreWithoutSource : ℕ → List ParcelItem → Type 0
AreWithoutSource source items = All (λ (item : ParcelItem). set.contains item.others source ≡ false) items

abbrev pub AreEntriesWithoutSource : ℕ → List LogEntry → Type 0
AreEntriesWithoutSource source entries = All (λ (entry : LogEntry). set.contains entry.item.others source ≡ false) entries

-- contents whose counts can be written
abbrev pub IsWritable : ℕ → Contents → Type 0
IsWritable source (message ssn items body) = (length items < 2 ^ 32) × AreWithoutSource source items × (length body < 2 ^ 32)
IsWritable source (acknowledgement items) = (length items < 2 ^ 32) × AreWithoutSource source items
IsWritable source (question round view) = Unit {0}
IsWritable source (answer round entries) = (length entries < 2 ^ 32) × AreEntriesWithoutSource source entries
IsWritable source (own_number round) = Unit {0}
IsWritable source (not_up round) = Unit {0}
