-- The limits of a trace.
use Rattle.std.specs.Prelude.{ℕ, ◌*◌, ◌/◌, ◌≤◌, Bool, ◌&&◌, nat_le, min, if◌then◌else◌}

-- the maximum number of processes
abbrev pub max_processes : ℕ
max_processes = 256

-- the maximum number of entries of any trace
abbrev pub max_entries : ℕ
max_entries = 16777216

-- the maximum number of listed determinants of any trace
abbrev pub max_listed : ℕ
max_listed = 268435456

-- the default maximum number of entries
abbrev pub default_entries : ℕ
default_entries = 65536

-- the maximum number of listed determinants of a trace of at most this many entries
abbrev pub listed_limit : ℕ → ℕ
listed_limit entries = 16 * entries

-- the maximum number of restarts of any trace
abbrev pub max_restarts : ℕ
max_restarts = 65536

-- the default maximum number of restarts
abbrev pub default_restarts : ℕ
default_restarts = 192

-- The maximum number of restarts of a trace of at most this many entries: 192 up to the default maximum of entries, and
-- beyond it one for each 256 entries.
unfoldable pub restart_limit : ℕ → ℕ
restart_limit entries = if nat_le entries default_entries then default_restarts else min max_restarts (entries / 256)

-- whether a run may have n processes
abbrev pub is_process_count : ℕ → Bool
is_process_count n = nat_le 1 n && nat_le n max_processes

-- a run may have n processes
abbrev pub IsProcessCount : ℕ → Type 0
IsProcessCount n = (1 ≤ n) × (n ≤ max_processes)
