use Rattle.std.proofs.Common.{arith}
use Rattle.causal_explain.proofs.StandingLemmas.{fails_now, since_newest, since_more}
use Rattle.causal_explain.proofs.validity.Validity.begin_at.Goals as goal

pub returns-in-Never : goal.returns-in-Never
returns-in-Never c test e past is holds h = grind (arith, since_newest, fails_now past test)

pub returns-in-Holds : goal.returns-in-Holds
returns-in-Holds c test e past is holds h = since_more e past test c.in-Holds.since (rw c.in-Holds.is at h) holds
