use Rattle.std.proofs.Common.{arith}
use Rattle.causal_node.specs.NodeRecovery.{processes_below}
use Rattle.causal_node.proofs.node_opening.processes_below.Goals as goal

pub loop-p-init : goal.loop-p-init
unfolding processes_below
loop-p-init c = c.none-processes.ensures

pub loop-p-preserved : goal.loop-p-preserved
unfolding processes_below
loop-p-preserved c = grind arith
