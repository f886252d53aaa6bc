use Rattle.causal_rounds.proofs.Lemmas.AcceptanceSteps.{restarts_miss_nothing}
use Rattle.causal_rounds.proofs.laws.restarts_miss_nothing.Goals as goal

pub returns : goal.returns
returns c = record { gathered = restarts_miss_nothing }
