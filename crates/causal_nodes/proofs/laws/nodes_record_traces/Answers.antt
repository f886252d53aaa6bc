use Rattle.causal_nodes.proofs.Recording.{nodes_record_traces}
use Rattle.causal_nodes.proofs.laws.nodes_record_traces.Goals as goal

pub returns : goal.returns
returns c = record { traces = nodes_record_traces }
