use Rattle.std.proofs.Common.{◌≡◌, ◌++◌, drop}
use Rattle.causal_picture.specs.Drawings.{shown_bands}
use Rattle.causal_picture.proofs.drawing.add_bands.Given as goal

-- the parts so far and those of the remaining bands make up the whole list
abbrev pub invariant-loop-band : goal.invariant-loop-band
invariant-loop-band l =
    l.fn.parts.items ++ shown_bands l.grid l.fn.instant l.bands ≡ l.parts.items ++ shown_bands l.grid l.fn.instant (drop l.band-index l.bands)
