use Rattle.std.proofs.Common.{◌∙◌}
use Rattle.causal_holders.specs.SameMembers.{have_same_members}
use Rattle.causal_holders.proofs.Words.{same_words}
use Rattle.causal_holders.proofs.ByteSetPartialEq.eq.Goals as goal

pub returns : goal.returns
returns c =
    c.eq.ensures
    ∙ same_words c.self.inside.words c.other.inside.words c.self.invariant c.other.invariant
    ∙ (λ i. have_same_members (c.self.view_is i) (c.other.view_is i))
