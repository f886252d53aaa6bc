use Rattle.causal_reading.proofs.SharingLemmas.{chunk_cut}
use Rattle.causal_reading.proofs.shared_chunks.SharedChunks.of.Goals as goal

pub loop-left-preserved : goal.loop-left-preserved
loop-left-preserved c =
    chunk_cut c.args.piece.now c.loop-left.left.now c.split_lines.result.0.now c.split_lines.result.1.now c.loop-left.chunks.items c.push.new.self.items c.new.result c.push.result c.is_err.result c.loop-left.invariant
    c.split_lines.ensures.whole c.new.ensures c.push.ensures.items c.is_err.ensures.value c.if-is_err.false
