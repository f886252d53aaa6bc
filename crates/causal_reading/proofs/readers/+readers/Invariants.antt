use Rattle.std.proofs.Common.{◌-◌, ◌*◌}
use Rattle.causal_reading.proofs.readers.+readers.Given as goal

abbrev pub decreases-with_workers : goal.decreases-with_workers
decreases-with_workers g l = 2 * l.others

abbrev pub decreases-rest : goal.decreases-rest
decreases-rest g l = 2 * l.others - 1
