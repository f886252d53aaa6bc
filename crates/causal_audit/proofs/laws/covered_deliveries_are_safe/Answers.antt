use Rattle.causal_audit.proofs.index.Receivers.{crashed, alone, covered}
use Rattle.causal_audit.proofs.laws.covered_deliveries_are_safe.Goals as goal

pub returns : goal.returns
returns c = record { only_receiver = alone; covered = covered; crashed = crashed }
