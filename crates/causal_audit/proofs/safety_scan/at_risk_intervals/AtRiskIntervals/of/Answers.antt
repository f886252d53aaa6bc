use Rattle.causal_audit.proofs.safety_scan.at_risk_intervals.AtRiskIntervals.of.Goals as goal

pub loop-stretch-preserved : goal.loop-stretch-preserved
loop-stretch-preserved c = record {
  within = c.in-Some.ensures.passed.within;
  scan_position = c.in-Some.ensures.scan_position;
  found = c.in_ok-note.ensures.at_risk c.args.look.now c.loop-stretch.scan_position.t c.next.new.scan_position.t c.in-Some.ensures.passed c.loop-stretch.invariant.found;
}
