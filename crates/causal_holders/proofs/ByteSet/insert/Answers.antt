use Rattle.std.proofs.Common.{ap, ◌∙◌, arith}
use Rattle.std.proofs.lemmas.Grind.{elements}
use Rattle.std.specs.FinSet as set
use Rattle.causal_holders.proofs.Words.{inserted, or_fits}
use Rattle.causal_holders.proofs.ByteSet.insert.Goals as goal

pub invariant_of-self : goal.invariant_of-self
invariant_of-self c = grind (arith, elements, or_fits)

pub returns : goal.returns
returns c =
    rw c.from.ensures (inserted c.self.inside.words c.args.number c.self.invariant (omega arith) ∙ ap (λ s. set.insert s c.args.number) c.self.view_is)
