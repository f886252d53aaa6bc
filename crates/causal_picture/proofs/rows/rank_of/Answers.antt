use Rattle.std.proofs.Common.{arith}
use Rattle.std.specs.FinSet.{contains}
use Rattle.causal_picture.proofs.ShownMembers.{rank_small}
use Rattle.causal_picture.proofs.rows.rank_of.Goals as goal

pub overflow_add-rank : goal.overflow_add-rank
overflow_add-rank c = omega (arith, c.loop-number.invariant, c.loop-number-test.true, rank_small c.loop-number.number (contains c.args.shown))
