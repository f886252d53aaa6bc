use Rattle.std.proofs.Common.{arith}
use Rattle.causal_log.proofs.TableLemmas.{none_later}
use Rattle.causal_log.proofs.table.Table.least_of.Goals as goal

pub returns-then-is_later : goal.returns-then-is_later
returns-then-is_later c =
    grind (arith, none_later c.self.inside.entries.entries c.self.inside.numbers c.self.invariant.keyed c.self.inside.last c.args.slot c.self.invariant.ended)
