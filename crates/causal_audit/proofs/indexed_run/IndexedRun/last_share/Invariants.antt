use Rattle.std.proofs.Common.{◌≤◌, ◌-◌}
use Rattle.causal_audit.proofs.indexed_run.IndexedRun.last_share.Given as goal

abbrev pub invariant-loop-low : goal.invariant-loop-low
invariant-loop-low l = record {
  from : l.from ≤ l.low;
  between : l.low ≤ l.high;
  to : l.high ≤ l.to;
}

abbrev pub decreases-loop-low : goal.decreases-loop-low
decreases-loop-low l = l.high - l.low
