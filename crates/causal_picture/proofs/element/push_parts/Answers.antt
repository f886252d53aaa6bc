use Rattle.causal_picture.proofs.Elements.{part_written}
use Rattle.causal_picture.proofs.element.push_parts.Goals as goal

pub loop-part-preserved : goal.loop-part-preserved
loop-part-preserved c =
    part_written _ _ _ _ _ _ _ c.deref-part-items.ensures.value c.loop-part-test.true c.loop-part.invariant c.in_ok-push_part.ensures
