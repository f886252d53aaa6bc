-- Determinants in C's layout.
use Rattle.std.specs.Prelude.{◌≡◌, ℕ, List, ◌++◌, length, take, drop, min, map}
use Rattle.causal_name.specs.declared.Det.{Det}
use Rattle.nixu_boundary.specs.declared.c_determinant.CDeterminant.{CDeterminant}

-- the determinant in a C struct, and the struct of a determinant
abbrev pub det_from_c : CDeterminant → Det
det_from_c d = record { source = record { 0 = d.source }; ssn = d.ssn; dest = record { 0 = d.dest }; rsn = d.rsn }

abbrev pub c_det_of : Det → CDeterminant
c_det_of d = record { ssn = d.ssn; rsn = d.rsn; source = d.source.0; dest = d.dest.0 }

-- the buffer starts with as many of the determinants as fit, its rest is unchanged, and their number is returned
pub record AreCopiedOut (dets : List Det) (old new : List CDeterminant) (needed : ℕ) : Type 0 where
  pub front : new ≡ take (min (length old) (length dets)) (map c_det_of dets) ++ drop (min (length old) (length dets)) old
  pub number : needed ≡ length dets
