use Rattle.std.proofs.Common.{◌≡◌, length}
use Rattle.causal_trace.specs.Numbers.{delivered_dets}
use Rattle.causal_trace.specs.State.{past_at}
use Rattle.causal_trace.specs.Inside.SortedDeliveries.{AreDeliveries}
use Rattle.causal_trace.proofs.sorted_deliveries.SortedDeliveries.fill.Given as goal

-- the deliveries of the entries so far
abbrev pub invariant-loop-t : goal.invariant-loop-t
invariant-loop-t l = record {
  deliveries : AreDeliveries l.self (delivered_dets (past_at l.entries l.t));
  number : l.number ≡ length (delivered_dets (past_at l.entries l.t));
}
