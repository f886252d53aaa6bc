use Rattle.causal_protocol.proofs.StepKeeps.{facts_after}
use Rattle.causal_protocol.proofs.laws.forgets_preserve_invariant.Goals as goal

pub returns : goal.returns
returns c = search facts_after
