use Rattle.std.proofs.Common.{ap, ◌∙◌, ◌+◌, ℕ, length}
use Rattle.causal_holders.specs.Members.{ascending}
use Rattle.causal_wire.proofs.ParcelLaws.{length_of_item}
use Rattle.causal_wire.proofs.laws.size_law.Goals as goal

pub returns : goal.returns
returns c = λ item processes. length_of_item item.det (length (ascending item.others)) (ascending item.others) ∙ ap (λ (k : ℕ). 11 + k) (c.ascending_law.ensures.counted item.others processes)
