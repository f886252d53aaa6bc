-- How far a source is read by several workers.
use Rattle.std.specs.Prelude.{ℕ, ◌*◌, max, nat_le, if◌then◌else◌}
use Rattle.causal_text.specs.Streams.{max_piece}

-- how many bytes several workers take at a time: 524,288, or 65,536 for each if that is more
unfoldable pub shared_read : ℕ → ℕ
shared_read workers = max 524288 (65536 * workers)

-- the maximum size of one read in bytes: 4,096 with one worker
abbrev pub max_read : ℕ → ℕ
max_read workers = if nat_le workers 1 then max_piece else shared_read workers
