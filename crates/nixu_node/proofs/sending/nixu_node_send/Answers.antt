use Rattle.nixu_node.specs.Calls.{HasSentMessage}
use Rattle.nixu_node.specs.Structs.{pid}
use Rattle.nixu_node.proofs.Steps.{step_in}
use Rattle.nixu_node.proofs.sending.nixu_node_send.Goals as goal

pub returns-clause-ok : goal.returns-clause-ok
returns-clause-ok c is = step_in (λ o. HasSentMessage o.endpoint c.args.now (pid c.args.to) c.args.body.now c.send-status.new.sent) c.in-Some.ensures.given c.fill.ensures c.deref_mut.ensures.value (c.send-status.ensures.ok is)
