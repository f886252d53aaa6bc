use Rattle.causal_endpoints.proofs.CallRows.{calls_are_node_calls}
use Rattle.causal_endpoints.proofs.KeptRows.{calls_keep_states}
use Rattle.causal_endpoints.proofs.laws.endpoint_calls_are_node_calls.Goals as goal

pub returns-clause-calls : goal.returns-clause-calls
returns-clause-calls c = calls_are_node_calls c.reading_law.ensures

pub returns-clause-kept : goal.returns-clause-kept
returns-clause-kept c = calls_keep_states c.reading_law.ensures c.calls_are_steps.ensures.kept
