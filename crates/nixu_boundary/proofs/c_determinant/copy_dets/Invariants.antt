use Rattle.std.proofs.Common.{◌≡◌, map, take, drop, length, ◌≤◌}
use Rattle.nixu_boundary.specs.Determinants.{c_det_of}
use Rattle.nixu_boundary.proofs.c_determinant.copy_dets.Given as goal

-- the first structs are those of the determinants, the others are unchanged
abbrev pub invariant-loop-i : goal.invariant-loop-i
invariant-loop-i l = record {
  done : take l.i l.out ≡ take l.i (map c_det_of l.dets);
  rest : drop l.i l.out ≡ drop l.i l.fn.out;
  count : length l.out ≡ length l.fn.out;
  most : l.i ≤ l.fitting;
}
