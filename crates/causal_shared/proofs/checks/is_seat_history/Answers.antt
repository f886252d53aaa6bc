use Rattle.std.proofs.Common.{arith}
use Rattle.causal_shared.proofs.Openings.{Follows-next, items_of_drop_mine, head_rest}
use Rattle.causal_shared.proofs.checks.is_seat_history.Goals as goal

pub loop-item-preserved : goal.loop-item-preserved
loop-item-preserved c = grind (arith, Follows-next, items_of_drop_mine, head_rest)
