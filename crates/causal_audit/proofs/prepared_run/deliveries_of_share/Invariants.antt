use Rattle.std.proofs.Common.{◌≡◌, ◌*◌, ◌-◌, ◌<◌, ◌≤◌, length}
use Rattle.causal_audit.specs.Shares.{walk_count, walked}
use Rattle.causal_audit.specs.Inside.Group.OpenDeliveries.{open_lengths_of}
use Rattle.causal_audit.proofs.prepared_run.deliveries_of_share.Given as goal

-- the walks so far; without the last they cover too few entries
abbrev pub invariant-loop-walk : goal.invariant-loop-walk
invariant-loop-walk l = record {
  within : l.walk ≤ walk_count (length l.candidates);
  sum : l.walked ≡ walked (open_lengths_of l.candidates) l.walk;
  small : l.walked ≤ l.walk * 4294967296;
  least : 1 < l.walk → walked (open_lengths_of l.candidates) (l.walk - 1) < l.fair;
}
