use Rattle.std.proofs.Common.{arith}
use Rattle.std.proofs.lemmas.Grind.{common_steps}
use Rattle.causal_core.proofs.ReplayDeliveries.{replayed_nothing}
use Rattle.causal_core.proofs.replay.Core+S.replay.Goals as goal

pub returns-in-Some-clause-refused : goal.returns-in-Some-clause-refused
returns-in-Some-clause-refused g c = grind (arith, replayed_nothing, common_steps)
