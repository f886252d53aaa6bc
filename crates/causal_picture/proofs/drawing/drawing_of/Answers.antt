use Rattle.std.proofs.Common.{ap, ◌∙◌}
use Rattle.std.specs.Option.{option_copied}
use Rattle.causal_picture.specs.Drawings.{drawing, drawing_on}
use Rattle.causal_picture.proofs.drawing.drawing_of.Goals as goal

pub returns-clause-parts : goal.returns-clause-parts
unfolding drawing
returns-clause-parts c =
    c.in_ok-parts.ensures ∙ ap (drawing_on c.args.trace.now.recording (option_copied c.args.focus)) c.grid_around-grid.ensures.value
