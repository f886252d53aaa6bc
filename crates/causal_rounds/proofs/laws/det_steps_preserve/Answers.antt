use Rattle.causal_rounds.proofs.Lemmas.GatheredSteps.{det_step_preserves}
use Rattle.causal_rounds.proofs.laws.det_steps_preserve.Goals as goal

pub returns : goal.returns
returns c = record { preserved = det_step_preserves }
