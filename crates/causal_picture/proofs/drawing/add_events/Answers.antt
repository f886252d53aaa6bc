use Rattle.std.proofs.Common.{refl, sym, append-nil}
use Rattle.std.proofs.lemmas.List.{drop_all}
use Rattle.causal_picture.specs.Drawings.{shown_event}
use Rattle.causal_picture.proofs.Drawn.{next_parts}
use Rattle.causal_picture.proofs.drawing.add_events.Goals as goal

pub loop-mark-preserved : goal.loop-mark-preserved
loop-mark-preserved c =
    next_parts (shown_event c.args.trace.now.recording c.args.grid.now c.args.marks.now) c.args.marks.now c.loop-mark.mark-index _ _ _ _
    c.loop-mark-test.true c.loop-mark.invariant c.in_ok-add_event.ensures

pub loop-mark-init : goal.loop-mark-init
loop-mark-init c = refl

pub returns : goal.returns
returns c = sym (rw (drop_all c.loop-mark.mark-index c.args.marks.now c.loop-mark-test.false, append-nil) at c.loop-mark.invariant)
