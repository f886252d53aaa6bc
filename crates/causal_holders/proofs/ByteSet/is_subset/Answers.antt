use Rattle.causal_holders.proofs.Words.{nothing_left}
use Rattle.causal_holders.proofs.ByteSet.is_subset.Goals as goal

pub returns : goal.returns
returns c = rw (c.eq.ensures, c.minus.ensures, c.none.ensures) (nothing_left c.args.self c.args.other)
