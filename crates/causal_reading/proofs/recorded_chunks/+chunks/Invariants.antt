use Rattle.std.proofs.Common.{◌-◌, ◌*◌}
use Rattle.causal_reading.proofs.recorded_chunks.+chunks.Given as goal

abbrev pub decreases-read_chunks : goal.decreases-read_chunks
decreases-read_chunks g l = 2 * l.chunks

abbrev pub decreases-read : goal.decreases-read
decreases-read g l = 2 * l.chunks - 1
