-- Limits on the length of a core's run.
use Rattle.std.specs.Prelude.{ℕ}

-- the greatest number of entries
abbrev pub max_run_entries : ℕ
max_run_entries = 65536

-- the greatest number of determinants that the entries list in total
abbrev pub max_run_listed : ℕ
max_run_listed = 1048576
