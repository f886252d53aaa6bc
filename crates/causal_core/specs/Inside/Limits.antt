-- Whether further entries or a list exceed a limit of the trace.
use Rattle.std.specs.Prelude.{ℕ, ◌+◌, Bool, ◌||◌, nat_lt, List, length}
use Rattle.causal_protocol.specs.Limits.{max_run_entries, max_run_listed}
use Rattle.causal_trace.specs.Past.{listed_in}
use Rattle.causal_trace.specs.declared.entry.Entry.{Entry}

-- whether this number of further entries exceeds the limit
abbrev pub exceeds_entries_with : List Entry → ℕ → Bool
exceeds_entries_with past entries = nat_lt max_run_entries (length past + entries)

-- whether this number of further entries, or a list of this length, exceeds a limit
abbrev pub exceeds_limits_with : List Entry → ℕ → ℕ → Bool
exceeds_limits_with past entries listed = exceeds_entries_with past entries || nat_lt max_run_listed (listed_in past + listed)
