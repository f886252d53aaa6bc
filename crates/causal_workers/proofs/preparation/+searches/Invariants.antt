use Rattle.std.proofs.Common.{◌-◌, ◌*◌}
use Rattle.causal_workers.proofs.preparation.+searches.Given as goal

abbrev pub decreases-search_by : goal.decreases-search_by
decreases-search_by g l = 2 * l.workers

abbrev pub decreases-search_first : goal.decreases-search_first
decreases-search_first g l = 2 * l.workers - 1
