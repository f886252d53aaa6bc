use Rattle.std.proofs.Common.{◌≡◌}
use Rattle.causal_node.specs.NodeRecovery.{processes_below}
use Rattle.causal_node.proofs.node_opening.processes_below.Given as goal

abbrev pub invariant-loop-p : goal.invariant-loop-p
invariant-loop-p l = l.processes ≡ processes_below l.p
