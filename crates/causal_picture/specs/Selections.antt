-- Which part of a run a picture shows: some entries, and all processes or those of the focus.
use Rattle.std.specs.Prelude.{false, None}
use Rattle.causal_picture.specs.declared.selection.Selection.{Selection}

-- all processes, and the entries up to the focus
abbrev pub whole : Selection
whole = record { around = None; only_focus = false }
