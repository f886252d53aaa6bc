use Rattle.causal_audit.proofs.safety_scan.CoverStays.{instants_agree, orphans_agree}
use Rattle.causal_audit.proofs.laws.instants_agree.Goals as goal

pub returns : goal.returns
returns c = record { agree = instants_agree; orphans = orphans_agree }
