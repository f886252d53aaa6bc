use Rattle.std.proofs.Common.{append_assoc, arith, ◌∙◌}
use Rattle.causal_picture.proofs.drawing.add_ups.Goals as goal

pub loop-process-init : goal.loop-process-init
loop-process-init c = rw (c.into_iter-process-iterator.ensures.into_iter_gives ∙ c.iter-process-items.ensures)

pub loop-process-preserved : goal.loop-process-preserved
loop-process-preserved c = grind (arith, append_assoc, c.down_before-down.ensures c.in-Some.process)
