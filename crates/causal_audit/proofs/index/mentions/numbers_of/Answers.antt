use Rattle.std.proofs.lemmas.Grind.{common_steps}
use Rattle.causal_audit.proofs.Common.{arith}
use Rattle.causal_audit.proofs.index.Numbered.{mentioned_more}
use Rattle.causal_audit.proofs.index.mentions.numbers_of.Goals as goal

pub loop-entry-preserved : goal.loop-entry-preserved
loop-entry-preserved c = grind (arith, common_steps, mentioned_more)

pub returns : goal.returns
returns c = grind (arith, common_steps)
