use Rattle.std.proofs.Common.{arith}
use Rattle.std.proofs.lemmas.List.{length-map, take_at}
use Rattle.causal_trace.proofs.Rooms.{least_more, least_other}
use Rattle.causal_trace.proofs.chains.Chains.reserve_now.Goals as goal

pub returns-in_err-reserve-clause-full : goal.returns-in_err-reserve-clause-full
returns-in_err-reserve-clause-full c = grind (arith, least_other)

pub returns-clause-spare : goal.returns-clause-spare
returns-clause-spare c = grind (arith, length-map, take_at, least_more)
