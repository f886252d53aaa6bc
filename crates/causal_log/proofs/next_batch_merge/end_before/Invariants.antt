use Rattle.std.proofs.Common.{◌≡◌, ◌≤◌, ◌<◌, ◌-◌, true, length, slice_get}
use Rattle.std.specs.Option.{IfSome}
use Rattle.causal_name.specs.Names.{is_before}
use Rattle.causal_log.proofs.next_batch_merge.end_before.Given as goal

abbrev pub invariant-loop-place : goal.invariant-loop-place
invariant-loop-place l = record {
  from : l.from ≤ l.place;
  within : l.place ≤ length l.kept;
  last : l.from < l.place → IfSome (slice_get l.kept (l.place - 1)) (λ item. is_before item.det l.det ≡ true);
}

abbrev pub decreases-loop-place : goal.decreases-loop-place
decreases-loop-place l = length l.kept - l.place
