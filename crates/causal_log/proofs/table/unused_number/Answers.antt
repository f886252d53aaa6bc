use Rattle.std.proofs.Common.{arith}
use Rattle.causal_log.proofs.TableLemmas.{none_at_bound, used_numbers_few}
use Rattle.causal_log.proofs.table.unused_number.Goals as goal

pub returns-then-is_none-clause-few : goal.returns-then-is_none-clause-few
returns-then-is_none-clause-few c = used_numbers_few c.args.entries.now.entries c.args.slot c.loop-number.number c.loop-number.invariant.used

pub returns-clause-few : goal.returns-clause-few
returns-clause-few c =
    omega (arith, c.loop-number-test.false, used_numbers_few c.args.entries.now.entries c.args.slot c.loop-number.number c.loop-number.invariant.used)

pub returns-clause-unused : goal.returns-clause-unused
returns-clause-unused c = none_at_bound c.args.entries.now.entries c.args.numbers c.requires c.args.slot
