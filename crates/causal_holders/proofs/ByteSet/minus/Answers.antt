use Rattle.std.proofs.Common.{◌∙◌}
use Rattle.std.specs.FinSet as set
use Rattle.causal_holders.proofs.Words.{without, without_words}
use Rattle.causal_holders.proofs.ByteSet.minus.Goals as goal

pub returns : goal.returns
unfolding without_words
returns c = without c.self.inside.words c.other.inside.words c.other.invariant ∙ (λ i. set.difference (c.self.view_is i) (c.other.view_is i))
