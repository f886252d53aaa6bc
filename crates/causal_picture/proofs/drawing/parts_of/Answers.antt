use Rattle.causal_picture.proofs.Drawn.{five_parts}
use Rattle.causal_picture.proofs.drawing.parts_of.Goals as goal

pub returns : goal.returns
returns c =
    rw (← c.focus_crash.ensures, ← c.hidden_of.ensures, ← c.len.ensures.length)
    (five_parts _ _ _ _ _ _ _ _ _ _ _ c.new-parts.ensures.items c.in_ok-add_rows.ensures c.in_ok-add_run.ensures c.in_ok-add_focus.ensures c.in_ok-add_cuts.ensures
    c.in_ok-add_hidden_processes.ensures)
