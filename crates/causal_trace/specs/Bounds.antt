-- The part of a trace's invariant that concerns its limits.
use Rattle.std.specs.Prelude.{◌≡◌, ℕ, ◌≤◌, length}
use Rattle.causal_trace.specs.Limits.{max_entries, max_listed}
use Rattle.causal_trace.specs.Past.{listed_in}
use Rattle.causal_trace.specs.Rows.{Recording, IsWellFormed}

-- a well-formed recording within the limits of any trace, and the number of its listed determinants
pub record IsBounded (r : Recording) (listed : ℕ) : Type 0 where
  pub formed : IsWellFormed r
  pub short : length r.past ≤ max_entries
  pub counted : listed ≡ listed_in r.past
  pub within : listed ≤ max_listed
