use Rattle.nixu_node.specs.Calls.{HasForgotten}
use Rattle.nixu_node.proofs.Steps.{step_in}
use Rattle.nixu_node.proofs.storing.nixu_node_forget.Goals as goal

pub returns-clause-ok : goal.returns-clause-ok
returns-clause-ok c is = step_in (λ o. HasForgotten o.endpoint c.args.now) c.in-Some.ensures.given c.fill.ensures c.deref_mut.ensures.value (c.forget-status.ensures.ok is)
