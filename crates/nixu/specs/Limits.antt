-- The number of entries that a caller can choose for a trace.
use Rattle.std.specs.Prelude.{ℕ, ◌≤◌}
use Rattle.causal_trace.specs.Limits.{max_entries}

-- a caller can choose this maximum number of entries
abbrev pub IsEntryCount : ℕ → Type 0
IsEntryCount n = (1 ≤ n) × (n ≤ max_entries)
