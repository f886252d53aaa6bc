use Rattle.nixu_node.specs.Calls.{HasRestarted}
use Rattle.nixu_node.proofs.Steps.{step_in}
use Rattle.nixu_node.proofs.recovery.nixu_node_restart.Goals as goal

pub returns-clause-ok : goal.returns-clause-ok
returns-clause-ok c is = step_in (λ o. HasRestarted o.endpoint c.args.now) c.in-Some.ensures.given c.fill.ensures c.deref_mut.ensures.value (c.restart-status.ensures.ok is)
