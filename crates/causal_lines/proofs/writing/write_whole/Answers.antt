use Rattle.std.proofs.Common.{arith}
use Rattle.std.proofs.KnownBytes.{Appends-trans}
use Rattle.std.proofs.Math.Seq.{take-add}
use Rattle.causal_lines.proofs.writing.write_whole.Goals as goal

pub loop-written-preserved : goal.loop-written-preserved
loop-written-preserved g c =
    let bound = c.in-Ok.ensures.bound in
    let back = c.split_at.ensures.back_len in
    record {
      within = omega arith;
      out = rw (take-add c.loop-written.written c.in-Ok.n c.args.bytes.now, ← c.split_at.ensures.back) (Appends-trans _ _ _ _ _ c.loop-written.invariant.out c.in-Ok.ensures.bytes);
    }
