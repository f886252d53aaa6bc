use Rattle.causal_audit.proofs.Lemmas.OrphansByCounts.{no_orphans}
use Rattle.causal_audit.proofs.laws.no_orphans_condition.Goals as goal

pub returns : goal.returns
returns c = no_orphans
