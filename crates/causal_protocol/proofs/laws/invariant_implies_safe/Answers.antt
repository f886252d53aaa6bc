use Rattle.causal_protocol.proofs.Facts.{safe, single_slots, survivors_delivered}
use Rattle.causal_protocol.proofs.laws.invariant_implies_safe.Goals as goal

pub returns : goal.returns
returns c = search (safe, single_slots, survivors_delivered)
