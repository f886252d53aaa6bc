use Rattle.causal_protocol.proofs.StepKeeps.{openings_are_runs, steps_keep_runs}
use Rattle.causal_protocol.proofs.laws.requests_preserve_invariant.Goals as goal

pub returns : goal.returns
returns c = record { start = openings_are_runs; steps = steps_keep_runs }
