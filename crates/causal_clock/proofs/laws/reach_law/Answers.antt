use Rattle.causal_clock.proofs.Places.{reach_counted, reach_unique}
use Rattle.causal_clock.proofs.laws.reach_law.Goals as goal

pub returns : goal.returns
returns c = record { counted = reach_counted; unique = reach_unique }
