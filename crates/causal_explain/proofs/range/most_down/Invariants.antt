use Rattle.std.proofs.Common.{◌≤◌, ◌<◌, ◌-◌, ℕ}
use Rattle.std.specs.Prelude.{None}
use Rattle.causal_audit.specs.Breaches.{FirstExcess}
use Rattle.causal_explain.specs.Ranges.{HasExcessInstant}
use Rattle.causal_explain.proofs.range.most_down.Given as goal

abbrev pub invariant-loop-low : goal.invariant-loop-low
invariant-loop-low l = record {
  between : l.low ≤ l.high;
  small : l.high ≤ l.trace.recording.processes;
  most : FirstExcess l.trace.recording l.high None;
  fewer : (f : ℕ) → f < l.low → HasExcessInstant l.trace.recording f;
}

abbrev pub decreases-loop-low : goal.decreases-loop-low
decreases-loop-low l = l.high - l.low
