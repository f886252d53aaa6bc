use Rattle.std.proofs.Common.{arith, ◌∙◌}
use Rattle.std.proofs.lemmas.Grind.{elements}
use Rattle.std.specs.FinSet as set
use Rattle.causal_holders.proofs.Words.{united, or_words, or_fits}
use Rattle.causal_holders.proofs.ByteSet.union.Goals as goal

pub invariant_of-result : goal.invariant_of-result
invariant_of-result c = grind (arith, elements, or_fits)

pub returns : goal.returns
unfolding or_words
returns c = united c.self.inside.words c.other.inside.words ∙ (λ i. set.union (c.self.view_is i) (c.other.view_is i))
