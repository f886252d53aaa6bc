use Rattle.std.proofs.Common.{◌≡◌, ◌≤◌, true, drop, length}
use Rattle.causal_name.specs.Names.{is_ascending}
use Rattle.causal_log.specs.Logs.{dets_of}
use Rattle.causal_log.specs.Inside.Merges.{IsMergeState, log_before}
use Rattle.causal_log.proofs.next_batch_merge.merge_batches.Given as goal

abbrev pub invariant-loop-item : goal.invariant-loop-item
invariant-loop-item l = record {
  within : l.place ≤ length l.kept;
  ascend : is_ascending (dets_of (drop l.item-index l.items)) ≡ true;
  merged : IsMergeState l.delivery.f l.items (drop l.item-index l.items) l.delivery.from l.delivery.me (log_before l.delivery) l.out.items (drop l.place l.kept);
}
