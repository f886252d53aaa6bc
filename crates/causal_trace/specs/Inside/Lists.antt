-- The list that a value of `Dets` contains.
use Rattle.std.specs.Prelude.{List, [], ◌∷◌}
use Rattle.causal_name.specs.declared.Det.{Det}
use Rattle.causal_trace.specs.declared.entry.DetsRepr.{DetsRepr}
use Rattle.causal_trace.specs.declared.entry.DetsRepr.TheVariants.{One}
use Rattle.causal_trace.specs.declared.entry.DetsRepr.TheVariants as Lists

-- the determinants of either representation
abbrev pub dets_in_repr : DetsRepr → List Det
dets_in_repr (One det) = det ∷ []
dets_in_repr (Lists.List dets) = dets.items
