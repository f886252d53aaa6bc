use Rattle.causal_world.proofs.Recovery.{recoveries_are_reachable}
use Rattle.causal_world.proofs.laws.recoveries_are_reachable.Goals as goal

pub returns : goal.returns
returns c = record { reachable = recoveries_are_reachable }
