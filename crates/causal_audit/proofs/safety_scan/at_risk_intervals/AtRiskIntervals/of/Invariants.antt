use Rattle.std.proofs.Common.{◌+◌, ◌-◌, ◌≤◌}
use Rattle.causal_audit.specs.Inside.SafetyScan.Scans.{IsScanPosition, IsScanResult}
use Rattle.causal_audit.proofs.safety_scan.at_risk_intervals.AtRiskIntervals.of.Given as goal

-- the result covers all instants before the scan's position
abbrev pub invariant-loop-stretch : goal.invariant-loop-stretch
invariant-loop-stretch l = record {
  within : l.scan_position.t ≤ l.look.end + 1;
  scan_position : l.scan_position.t ≤ l.look.end → IsScanPosition l.look l.scan_position;
  found : IsScanResult l.look l.scan_position.t l.at_risk;
}

abbrev pub decreases-loop-stretch : goal.decreases-loop-stretch
decreases-loop-stretch l = l.look.end + 1 - l.scan_position.t
