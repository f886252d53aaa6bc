use Rattle.causal_picture.proofs.Texts.{then}
use Rattle.causal_picture.proofs.roles.push_processes.Goals as goal

pub loop-process-preserved : goal.loop-process-preserved
loop-process-preserved c = then _ _ _ c.loop-process.invariant c.in_ok-push_process.ensures
