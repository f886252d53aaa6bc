use Rattle.std.proofs.Common.{length, reverse, ap, subst, ◌∙◌}
use Rattle.causal_trace.specs.Numbers.{delivered_dets}
use Rattle.causal_trace.specs.State.{past_at}
use Rattle.causal_trace.specs.Inside.SortedDeliveries.{AreDeliveries}
use Rattle.causal_trace.proofs.Lemmas.Instants.{past_whole}
use Rattle.causal_trace.proofs.TraceIndex.{indexed_same}
use Rattle.causal_trace.proofs.trace.Trace.try_clone.Goals as goal

pub invariant_of-result : goal.invariant_of-result
invariant_of-result c =
    let items = c.self.inside.entries.items in
    let sorted : AreDeliveries c.sorted_again-sorted.result (delivered_dets (reverse items)) =
    subst (λ past. AreDeliveries c.sorted_again-sorted.result (delivered_dets past)) (ap (λ es. past_at es (length es)) c.as_slice.ensures.value ∙ past_whole items) c.sorted_again-sorted.ensures in
    rw (c.in_ok-entries.ensures, c.in_ok-lanes.ensures)
    (indexed_same (record { processes = c.self.inside.processes; past = reverse items }) _ _ _ c.self.inside.chains c.in_ok-chains.chains c.self.inside.sorted c.sorted_again-sorted.result c.self.invariant c.in_ok-chains.ensures.heads c.in_ok-chains.ensures.nodes sorted)
