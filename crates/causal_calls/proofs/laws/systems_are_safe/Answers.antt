use Rattle.causal_calls.proofs.Networks.{systems_are_safe, systems_share_no_slot}
use Rattle.causal_calls.proofs.laws.systems_are_safe.Goals as goal

pub returns : goal.returns
returns c =
    let safe = c.nodes_are_safe.ensures.safe in
    let single = c.nodes_are_safe.ensures.single in
    record { safe = systems_are_safe safe single; single = systems_share_no_slot safe single }
