use Rattle.causal_calls.proofs.Steps.{calls_are_steps, calls_keep}
use Rattle.causal_calls.proofs.laws.calls_are_steps.Goals as goal

pub returns : goal.returns
returns c = record { steps = calls_are_steps; kept = calls_keep }
