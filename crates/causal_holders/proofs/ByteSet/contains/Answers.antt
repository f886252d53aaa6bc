use Rattle.std.proofs.Common.{ap, ◌∙◌, arith}
use Rattle.std.specs.FinSet as set
use Rattle.causal_holders.proofs.Words.{bit_is}
use Rattle.causal_holders.proofs.ByteSet.contains.Goals as goal

pub returns : goal.returns
returns c =
    rw c.from.ensures (bit_is c.self.inside.words c.args.number (omega arith) ∙ ap (λ s. set.contains s c.args.number) c.self.view_is)
