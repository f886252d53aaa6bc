use Rattle.std.proofs.Common.{ap, ◌∙◌, arith}
use Rattle.std.specs.FinSet as set
use Rattle.causal_holders.proofs.Words.{removed}
use Rattle.causal_holders.proofs.ByteSet.remove.Goals as goal

pub returns : goal.returns
returns c =
    rw c.from.ensures (removed c.self.inside.words c.args.number c.self.invariant (omega arith) ∙ ap (λ s. set.remove s c.args.number) c.self.view_is)
