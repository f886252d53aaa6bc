use Rattle.causal_trace.proofs.Sizes.{numbers_small, limits_kept}
use Rattle.causal_trace.proofs.laws.numbers_are_bounded.Goals as goal

pub returns : goal.returns
returns c = assumption (numbers_small, limits_kept)
