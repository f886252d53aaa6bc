use Rattle.causal_nodes.proofs.Networks.{nodes_are_safe, nodes_share_no_slot}
use Rattle.causal_nodes.proofs.laws.nodes_are_safe.Goals as goal

pub returns : goal.returns
returns c = record { safe = nodes_are_safe; single = nodes_share_no_slot }
