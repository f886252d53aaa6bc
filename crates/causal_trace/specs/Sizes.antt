-- Bounds on the numbers of a recording.
use Rattle.std.specs.Prelude.{ℕ, ◌<◌, ◌≤◌, List, [], ◌∷◌, length}
use Rattle.causal_name.specs.declared.Det.{Det}
use Rattle.causal_trace.specs.declared.entry.Entry.{Entry}
use Rattle.causal_trace.specs.declared.entry.Entry.TheVariants.{Send, Deliver, Stable, Crash, Restart, Forget}
use Rattle.causal_trace.specs.Limits.{max_entries, max_listed, max_restarts}
use Rattle.causal_trace.specs.Past.{listed_in, restarts}
use Rattle.causal_trace.specs.Rows.{Recording, IsWellFormed}
use Rattle.causal_trace.specs.State.{entries_of}

-- the processes of a determinant are below `limit`, its counts below the limit of entries
pub record DetIsBounded (limit : ℕ) (d : Det) : Type 0 where
  pub source : d.source.0 < limit
  pub ssn : d.ssn < max_entries
  pub dest : d.dest.0 < limit
  pub rsn : d.rsn < max_entries

-- the determinants of a list are within these bounds
abbrev pub DetsAreBounded : ℕ → List Det → Type 0
DetsAreBounded limit [] = Unit {0}
DetsAreBounded limit (d ∷ ds) = DetIsBounded limit d × DetsAreBounded limit ds

-- the numbers of an entry are within these bounds
abbrev pub EntryIsBounded : ℕ → Entry → Type 0
EntryIsBounded limit (Send from to ssn) = (from.0 < limit) × (to.0 < limit) × (ssn < max_entries)
EntryIsBounded limit (Deliver to send rsn listed) = (to.0 < limit) × (send < max_entries) × (rsn < max_entries) × DetsAreBounded limit listed
EntryIsBounded limit (Stable det) = DetIsBounded limit det
EntryIsBounded limit (Crash who) = who.0 < limit
EntryIsBounded limit (Restart who listed) = (who.0 < limit) × DetsAreBounded limit listed
EntryIsBounded limit (Forget who listed) = (who.0 < limit) × DetsAreBounded limit listed

-- the numbers of each entry are within these bounds
abbrev pub EntriesAreBounded : ℕ → List Entry → Type 0
EntriesAreBounded limit [] = Unit {0}
EntriesAreBounded limit (e ∷ es) = EntryIsBounded limit e × EntriesAreBounded limit es

-- a well-formed recording of at most `limit` processes has bounded entries
abbrev pub NumbersAreBounded : Type 0
NumbersAreBounded = (r : Recording) (limit : ℕ) → IsWellFormed r → r.processes ≤ limit → EntriesAreBounded limit (entries_of r)

-- a well-formed recording is within the limits of any trace
abbrev pub LimitsAreKept : Type 0
LimitsAreKept = (r : Recording) → IsWellFormed r → (length r.past ≤ max_entries) × (listed_in r.past ≤ max_listed) × (restarts r.past ≤ max_restarts)
