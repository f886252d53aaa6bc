use Rattle.std.proofs.Common.{◌≡◌, ◌≤◌, ◌<◌, ◌-◌, true, false, length, slice_get}
use Rattle.std.specs.Option.{IfSome}
use Rattle.causal_name.specs.Names.{is_before}
use Rattle.causal_log.proofs.batch.item_index.Given as goal

abbrev pub invariant-loop-place : goal.invariant-loop-place
invariant-loop-place l = record {
  order : l.place ≤ l.end;
  within : l.end ≤ length l.items;
  next : IfSome (slice_get l.items l.end) (λ item. is_before item.det l.det ≡ false);
  last : 0 < l.place → IfSome (slice_get l.items (l.place - 1)) (λ item. is_before item.det l.det ≡ true);
}

abbrev pub decreases-loop-place : goal.decreases-loop-place
decreases-loop-place l = l.end - l.place
