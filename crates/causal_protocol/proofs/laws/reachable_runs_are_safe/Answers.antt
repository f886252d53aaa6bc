use Rattle.causal_protocol.proofs.Facts.{safe, single_slots, survivors_delivered}
use Rattle.causal_protocol.proofs.StepKeeps.{made_runs}
use Rattle.causal_protocol.proofs.laws.reachable_runs_are_safe.Goals as goal

pub returns : goal.returns
returns c = record {
  safe = λ r made. safe _ _ _ _ (made_runs r made);
  single = λ r made. single_slots _ _ _ _ (made_runs r made);
  delivered = λ r made. survivors_delivered _ _ _ _ (made_runs r made);
}
