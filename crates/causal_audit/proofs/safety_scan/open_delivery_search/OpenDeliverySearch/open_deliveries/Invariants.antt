use Rattle.causal_audit.proofs.Common.{◌≤◌}
use Rattle.causal_audit.specs.Inside.Group.OpenDeliveries.{AreOpenBetween}
use Rattle.causal_audit.proofs.safety_scan.open_delivery_search.OpenDeliverySearch.open_deliveries.Given as goal

-- the part from this number on is searched
abbrev pub invariant-loop-number : goal.invariant-loop-number
invariant-loop-number l = record {
  high : l.number ≤ l.to;
  searched : AreOpenBetween l.self l.number l.to l.found.items;
}

abbrev pub decreases-loop-number : goal.decreases-loop-number
decreases-loop-number l = l.number
