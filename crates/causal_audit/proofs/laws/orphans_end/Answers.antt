use Rattle.causal_audit.proofs.safety_scan.CoverStays.{orphans_end}
use Rattle.causal_audit.proofs.laws.orphans_end.Goals as goal

pub returns : goal.returns
returns c = orphans_end
