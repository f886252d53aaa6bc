use Rattle.std.proofs.Common.{◌+◌, ◌<◌, length, set, take, arith, ◌∙◌, ap}
use Rattle.std.proofs.lemmas.List.{length-set}
use Rattle.nixu_boundary.proofs.Copies.{front_more, rest_more}
use Rattle.nixu_boundary.proofs.c_determinant.copy_dets.Goals as goal

pub loop-i-preserved : goal.loop-i-preserved
loop-i-preserved c =
    let xs = c.loop-i.out in
    let i = c.loop-i.i in
    let ds = c.args.dets.now in
    let is = c.loop-i.invariant in
    let inside : i < length xs = omega (arith, is.count, c.loop-i-test.true, c.min-fitting.ensures) in
    let within : i < length ds = omega (arith, c.loop-i-test.true, c.min-fitting.ensures) in
    record {
      done = ap (λ y. take (i + 1) (set xs i y)) c.c_det_of.ensures ∙ front_more ds xs i _ inside within is.done;
      rest = rest_more c.args.out.now xs i c.c_det_of.result is.rest;
      count = length-set xs i c.c_det_of.result ∙ is.count;
      most = omega (arith, c.loop-i-test.true);
    }
