use Rattle.std.proofs.Common.{refl, sym, append-nil}
use Rattle.std.proofs.lemmas.List.{drop_all}
use Rattle.causal_picture.specs.Drawings.{shown_band}
use Rattle.causal_picture.proofs.Drawn.{next_parts}
use Rattle.causal_picture.proofs.drawing.add_bands.Goals as goal

pub loop-band-preserved : goal.loop-band-preserved
loop-band-preserved c =
    next_parts (shown_band c.args.grid.now c.args.instant) c.args.bands.now c.loop-band.band-index _ _ _ _
    c.loop-band-test.true c.loop-band.invariant c.in_ok-add_band.ensures

pub loop-band-init : goal.loop-band-init
loop-band-init c = refl

pub returns : goal.returns
returns c = sym (rw (drop_all c.loop-band.band-index c.args.bands.now c.loop-band-test.false, append-nil) at c.loop-band.invariant)
