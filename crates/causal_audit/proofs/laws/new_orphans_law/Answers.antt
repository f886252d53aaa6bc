use Rattle.causal_audit.proofs.Swept.{sweep_law, one_new_orphan}
use Rattle.causal_audit.proofs.laws.new_orphans_law.Goals as goal

pub returns-clause-newly : goal.returns-clause-newly
returns-clause-newly c = sweep_law

pub returns-clause-receiver : goal.returns-clause-receiver
returns-clause-receiver c = one_new_orphan
