use Rattle.std.proofs.Common.{◌-◌, ◌<◌}
use Rattle.std.specs.FinSet.{len}
use Rattle.causal_explain.specs.Closest.{HasNoOrphan}
use Rattle.causal_explain.specs.Inside.Bisection.{FailsByItself}
use Rattle.causal_explain.proofs.closest.bisect.Given as goal

abbrev pub invariant-loop-low : goal.invariant-loop-low
invariant-loop-low l = record {
  small : l.low < 65536;
  none : HasNoOrphan l.trace.recording l.low;
  fails : FailsByItself l.trace.recording l.least;
}

abbrev pub decreases-loop-low : goal.decreases-loop-low
decreases-loop-low l = len l.least.crash - l.low
