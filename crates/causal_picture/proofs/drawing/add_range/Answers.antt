use Rattle.causal_picture.proofs.Drawn.{two_parts}
use Rattle.causal_picture.proofs.drawing.add_range.Goals as goal

pub returns : goal.returns
returns c =
    rw (← c.in_ok-marks.ensures.value)
    (two_parts _ _ _ _ _ (rw c.deref.ensures.value at c.in_ok-add_ups.ensures) (rw c.deref-2.ensures.value at c.in_ok-add_events.ensures))
