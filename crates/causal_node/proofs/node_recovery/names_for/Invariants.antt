use Rattle.std.proofs.Common.{◌≡◌, drop}
use Rattle.std.specs.Prelude.{◌||◌}
use Rattle.causal_name.specs.declared.MsgName.{MsgName}
use Rattle.causal_node.specs.NodeStates.{has_name}
use Rattle.causal_node.specs.NodeRecovery.{is_named_for}
use Rattle.causal_node.proofs.node_recovery.names_for.Given as goal

abbrev pub invariant-loop-det : goal.invariant-loop-det
invariant-loop-det l = (m : MsgName) → (has_name l.names.keys m || is_named_for l.me (drop l.det-index l.dets) m) ≡ is_named_for l.me l.dets m
