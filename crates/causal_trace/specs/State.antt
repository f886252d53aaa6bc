-- What a contract sees of a `Trace`, and its instants.
use Rattle.std.specs.Prelude.{ℕ, Bool, not, nat_lt, ◌&&◌, if◌then◌else◌, List, ◌∷◌, reverse, take, Option, Some, None}
use Rattle.causal_trace.specs.declared.entry.Entry.{Entry}
use Rattle.causal_trace.specs.Past.{instant, is_down, lane}
use Rattle.causal_trace.specs.Rows.{Recording}

-- a recording, and how many pushes fit in reserved capacity: of any entries, and of stable entries
pub record TraceState : Type 0 where
  pub recording : Recording
  pub spare : ℕ
  pub stable_spare : ℕ

-- the entries, oldest first
abbrev pub entries_of : Recording → List Entry
entries_of r = reverse r.past

-- a recording with one more entry
abbrev pub with_entry : Recording → Entry → Recording
with_entry r e = record { processes = r.processes; past = e ∷ r.past }

-- whether p is a process that is up at instant t
abbrev pub is_up_at : Recording → ℕ → ℕ → Bool
is_up_at r t p = nat_lt p r.processes && not (is_down (instant r.past t) p)

-- the lane (incarnation) of process p at instant t; None if there is no such process
abbrev pub lane_at : Recording → ℕ → ℕ → Option ℕ
lane_at r t p = if nat_lt p r.processes then Some (lane (instant r.past t) p) else None

-- the state after the first t of these entries, oldest first
abbrev pub past_at : List Entry → ℕ → List Entry
past_at entries t = reverse (take t entries)
