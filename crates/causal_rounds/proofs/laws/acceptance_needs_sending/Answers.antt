use Rattle.causal_rounds.proofs.Lemmas.AcceptanceSteps.{acceptance_needs_sending}
use Rattle.causal_rounds.proofs.laws.acceptance_needs_sending.Goals as goal

pub returns : goal.returns
returns c = record { sent = acceptance_needs_sending }
