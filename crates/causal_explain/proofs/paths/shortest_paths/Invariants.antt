use Rattle.std.proofs.Common.{◌≡◌, ◌≤◌, length}
use Rattle.std.specs.Prelude.{vec_len, vec_capacity}
use Rattle.causal_trace.specs.State.{past_at}
use Rattle.causal_explain.specs.Inside.ShortestPaths.{AreNearest, ArePathSteps}
use Rattle.causal_explain.proofs.paths.shortest_paths.Given as goal

-- the paths to the entries so far, and the nearest event of each lane
abbrev pub invariant-loop-i : goal.invariant-loop-i
invariant-loop-i l = record {
  count : length l.lanes ≡ 256;
  ways : ArePathSteps (past_at l.fn.entries l.i) l.fn.from l.ways.items;
  lanes : AreNearest (past_at l.fn.entries l.i) l.fn.from l.lanes;
  len : vec_len l.ways ≡ l.i;
  room : length l.fn.entries ≤ vec_capacity l.ways;
}
