use Rattle.std.proofs.Common.{arith}
use Rattle.causal_clock.proofs.Columns.{row_greatest}
use Rattle.causal_clock.proofs.lane.LaneColumns.count_if_greater.Goals as goal

pub returns-then-last_count-known : goal.returns-then-last_count-known
returns-then-last_count-known c = omega (arith, c.if-last_count-known.true, c.last_count.ensures, row_greatest _ _ _ _ c.args.self.now.kept c.args.source c.args.place)
