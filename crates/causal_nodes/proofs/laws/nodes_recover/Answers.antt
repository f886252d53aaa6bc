use Rattle.causal_nodes.proofs.Recovers.{nodes_recover}
use Rattle.causal_nodes.proofs.laws.nodes_recover.Goals as goal

pub returns : goal.returns
returns c = record { recovered = nodes_recover }
