-- A buffer into which one more determinant is copied.
use Rattle.std.proofs.Common.{◌≡◌, ℕ, ◌+◌, ◌<◌, List, map, take, drop, length, get_or, set, arith, ◌∙◌, sym}
use Rattle.std.proofs.lemmas.List.{take_more_same, take-set-le, drop-set-lt, get_or-set_same, length-set, length-map, get_or-map}
use Rattle.std.proofs.lemmas.Grind.{drop_more_same}
use Rattle.causal_name.specs.declared.Det.{Det}
use Rattle.nixu_boundary.specs.declared.c_determinant.CDeterminant.{CDeterminant}
use Rattle.nixu_boundary.specs.Determinants.{c_det_of}

-- its front is that of the structs of the determinants
pub front_more : (ds : List Det) (xs : List CDeterminant) (i : ℕ) (d : Det) → i < length xs → i < length ds → take i xs ≡ take i (map c_det_of ds) → take (i + 1) (set xs i (c_det_of (get_or ds i d))) ≡ take (i + 1) (map c_det_of ds)
front_more ds xs i d inside within same =
    let y = c_det_of (get_or ds i d) in
    take_more_same (set xs i y) (map c_det_of ds) i y (omega (arith, length-set xs i y, inside)) (omega (arith, length-map ds c_det_of, within))
    (take-set-le i xs i y (omega arith) ∙ same) (get_or-set_same xs i y y inside ∙ sym (get_or-map c_det_of ds i d y within))

-- the rest is unchanged
pub rest_more : (old xs : List CDeterminant) (i : ℕ) (y : CDeterminant) → drop i xs ≡ drop i old → drop (i + 1) (set xs i y) ≡ drop (i + 1) old
rest_more old xs i y same = drop-set-lt (i + 1) xs i y (omega arith) ∙ drop_more_same xs old i same
