use Rattle.causal_endpoints.proofs.EndpointNetworks.{endpoint_systems_are_safe, endpoint_systems_share_no_slot}
use Rattle.causal_endpoints.proofs.laws.endpoint_systems_are_safe.Goals as goal

pub returns : goal.returns
returns c =
    let back = c.reading_law.ensures in
    let calls = c.endpoint_calls_are_node_calls.ensures.calls in
    let kept = c.endpoint_calls_are_node_calls.ensures.kept in
    record { safe = endpoint_systems_are_safe back calls kept c.systems_are_safe.ensures.safe; single = endpoint_systems_share_no_slot back calls kept c.systems_are_safe.ensures.single }
