use Rattle.causal_rounds.proofs.Lemmas.RoundSteps.{round_step_preserves}
use Rattle.causal_rounds.proofs.laws.round_steps_preserve.Goals as goal

pub returns : goal.returns
returns c = record { preserved = round_step_preserves }
