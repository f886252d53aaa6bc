use Rattle.causal_audit.proofs.Lemmas.OrphansByCounts.{counted}
use Rattle.causal_audit.proofs.laws.orphans_by_counting.Goals as goal

pub returns-clause-counted : goal.returns-clause-counted
returns-clause-counted c = counted
