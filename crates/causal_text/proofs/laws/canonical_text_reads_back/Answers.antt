use Rattle.std.proofs.Common.{arith}
use Rattle.causal_text.proofs.Canonicals.{canonical-spells}
use Rattle.causal_text.proofs.laws.canonical_text_reads_back.Goals as goal

pub returns-clause-spells : goal.returns-clause-spells
returns-clause-spells c = grind (arith, canonical-spells)

pub returns-clause-within_limit : goal.returns-clause-within_limit
returns-clause-within_limit c = λ most r some w kept. (canonical-spells c.numbers_are_bounded.ensures.small c.numbers_are_bounded.ensures.limits most r some w kept).within
