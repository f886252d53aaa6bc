use Rattle.std.proofs.Common.{arith}
use Rattle.causal_log.proofs.TableLemmas.{absent_everywhere, absent_one_more}
use Rattle.causal_log.proofs.table.search.Goals as goal

pub loop-number-preserved : goal.loop-number-preserved
loop-number-preserved c = grind (arith, absent_one_more c.args.entries.now.entries c.args.det c.loop-number.number)

pub returns-clause-absent : goal.returns-clause-absent
returns-clause-absent c = grind (arith, absent_everywhere c.args.entries.now.entries c.args.numbers c.requires c.len-len.ensures.unique c.args.det)
