use Rattle.std.proofs.Common.{length, ◌+◌, ◌-◌, ◌*◌, ◌≤◌}
use Rattle.causal_clock.proofs.column.search_start.Given as goal

abbrev pub invariant-loop-back : goal.invariant-loop-back
invariant-loop-back l = (1 ≤ l.back) × (l.back ≤ 2 * length l.column + 1)

abbrev pub decreases-loop-back : goal.decreases-loop-back
decreases-loop-back l = length l.column - l.back
