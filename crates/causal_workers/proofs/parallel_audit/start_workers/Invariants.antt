use Rattle.std.proofs.Common.{◌≤◌, ◌≡◌, ◌+◌, length, vec_len, vec_capacity}
use Rattle.causal_workers.specs.Inside.Shares.{Follows}
use Rattle.causal_workers.proofs.parallel_audit.start_workers.Given as goal

-- the shares of the started workers, up to the index from which the next one continues
abbrev pub invariant-loop-worker : goal.invariant-loop-worker
invariant-loop-worker g l = record {
  within : l.from ≤ length l.own.prepared.now.positions;
  count : vec_len l.started + 1 ≡ l.worker;
  room : l.workers ≤ vec_capacity l.started + 1;
  last : l.worker ≡ l.workers → l.from ≡ length l.own.prepared.now.positions;
  shares : Follows l.own.prepared.now l.own.to l.started.items l.from;
}
