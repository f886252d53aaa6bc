use Rattle.causal_audit.proofs.Common.{ℕ, ◌≡◌, ◌+◌, ◌<◌, ◌≤◌, Some, det_at}
use Rattle.causal_trace.specs.Numbers.{delivered_dets, number_of}
use Rattle.causal_audit.specs.Numbers.{IsNumbered}
use Rattle.causal_audit.specs.Inside.Group.OpenDeliveries.{HasMore, IsListedOrSafe, delivery_count}
use Rattle.causal_audit.proofs.safety_scan.open_delivery_search.OpenDeliverySearch.check_sharers.Given as goal

-- the deliveries with the determinant from this number on are listed or without orphan
abbrev pub invariant-loop-older : goal.invariant-loop-older
invariant-loop-older l = record {
  few : l.number < delivery_count l.self;
  own : number_of (l.number + 1) (delivered_dets l.self.run.past) l.det ≡ Some l.number;
  more : HasMore l.self l.fn.found.items l.found.items;
  told : (i k : ℕ) → l.number ≤ i → i < delivery_count l.self → IsNumbered l.self.run.past i k → det_at l.self.run.past k ≡ Some l.det → IsListedOrSafe l.self l.found.items k;
}

abbrev pub decreases-loop-older : goal.decreases-loop-older
decreases-loop-older l = l.number
