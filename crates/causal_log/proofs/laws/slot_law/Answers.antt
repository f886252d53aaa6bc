use Rattle.causal_log.specs.Slots.{is_of_slot}
use Rattle.causal_log.proofs.Lemmas.Slots.{first_fits}
use Rattle.causal_log.proofs.laws.slot_law.Goals as goal

pub returns-clause-fills : goal.returns-clause-fills
returns-clause-fills c = λ dest rsn. first_fits (is_of_slot dest rsn)
