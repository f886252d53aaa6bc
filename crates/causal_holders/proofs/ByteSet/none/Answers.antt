use Rattle.causal_holders.proofs.Words.{shown_none}
use Rattle.causal_holders.proofs.ByteSet.none.Goals as goal

pub returns : goal.returns
returns c = shown_none
