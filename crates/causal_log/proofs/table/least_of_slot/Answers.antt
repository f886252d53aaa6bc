use Rattle.causal_log.proofs.TableLemmas.{least_of_all, least_one_more}
use Rattle.std.proofs.Common.{arith}
use Rattle.causal_log.proofs.table.least_of_slot.Goals as goal

pub loop-number-preserved : goal.loop-number-preserved
loop-number-preserved c = grind (arith, least_one_more c.args.entries.now.entries c.args.numbers c.requires c.args.slot c.loop-number.number c.loop-number.least c.loop-number.invariant)

pub returns : goal.returns
returns c = grind (arith, least_of_all c.args.entries.now.entries c.args.numbers c.requires c.len-len.ensures.unique c.args.slot c.loop-number.least)
