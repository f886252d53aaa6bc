use Rattle.causal_audit.proofs.index.Filings.{lists_ascend}
use Rattle.causal_audit.proofs.index.transitions.TransitionsBuilder.build.Goals as goal

pub invariant_of-result : goal.invariant_of-result
invariant_of-result c = record { count = c.requires.1.crashes; ascend = lists_ascend _ _ c.requires.1.crashed.ascend }

pub invariant_of-result-2 : goal.invariant_of-result-2
invariant_of-result-2 c = record { count = c.requires.1.restarts; ascend = lists_ascend _ _ c.requires.1.restarted.ascend }

pub invariant_of-result-3 : goal.invariant_of-result-3
invariant_of-result-3 c = record { count = c.requires.1.falls; ascend = lists_ascend _ _ c.requires.1.fallen.ascend }
