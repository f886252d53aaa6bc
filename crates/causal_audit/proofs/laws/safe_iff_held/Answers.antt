use Rattle.causal_audit.proofs.HeldOutside.{safe_is_held}
use Rattle.causal_audit.proofs.laws.safe_iff_held.Goals as goal

pub returns : goal.returns
returns c = safe_is_held
