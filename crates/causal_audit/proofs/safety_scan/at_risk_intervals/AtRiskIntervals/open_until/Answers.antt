use Rattle.causal_audit.proofs.Common.{arith}
use Rattle.causal_audit.proofs.safety_scan.at_risk_intervals.AtRiskIntervals.open_until.Goals as goal

pub returns-then-k-without_receiver-clause-covered : goal.returns-then-k-without_receiver-clause-covered
returns-then-k-without_receiver-clause-covered c rising u known after low may = grind (arith, c.last_without_receiver-without_receiver.ensures.last rising u)

pub returns-else-k-without_receiver-clause-covered : goal.returns-else-k-without_receiver-clause-covered
returns-else-k-without_receiver-clause-covered c rising u known after low may = grind (arith, c.last_without_receiver-without_receiver.ensures.last rising u)
