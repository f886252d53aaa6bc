-- The two versions of the format; version 2 allows more processes, and forget entries.
use Rattle.std.specs.Prelude.{◌≡◌, ℕ, ◌≤◌, ◌==◌, Bool, true, false, if◌then◌else◌, List, [], ◌∷◌, Option, Some, None}
use Rattle.causal_trace.specs.declared.entry.Entry.{Entry}
use Rattle.causal_trace.specs.declared.entry.Entry.TheVariants.{Forget}
use Rattle.causal_trace.specs.Rows.{Recording}
use Rattle.causal_line.specs.declared.version.Version.{Version}
use Rattle.causal_line.specs.declared.version.Version.TheVariants.{One, Two}

-- the number of a version in a header
abbrev pub version_number : Version → ℕ
version_number One = 1
version_number Two = 2

-- the version of a number
abbrev pub version_of : ℕ → Option Version
version_of number = if number == 1 then Some One else if number == 2 then Some Two else None

-- the maximum number of processes of a version
abbrev pub max_processes_in : Version → ℕ
max_processes_in One = 64
max_processes_in Two = 256

-- whether a version has lines for this kind of entry
abbrev pub allows : Version → Entry → Bool
allows One (Forget who listed) = false
allows _ _ = true

-- a version has a line for each of the entries
abbrev pub AllowsAll : Version → List Entry → Type 0
AllowsAll version [] = Unit {0}
AllowsAll version (e ∷ past) = AllowsAll version past × (allows version e ≡ true)

-- a recording can be written in a version
pub record FitsVersion (version : Version) (r : Recording) : Type 0 where
  pub few : r.processes ≤ max_processes_in version
  pub entries : AllowsAll version r.past
