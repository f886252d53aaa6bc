use Rattle.std.proofs.Common.{Ok, Err}
use Rattle.causal_reading.proofs.SharingLemmas.{chunk_fed}
use Rattle.causal_reading.proofs.shared_chunks.SharedChunks.read_from.Goals as goal

pub loop-chunk-preserved : goal.loop-chunk-preserved
loop-chunk-preserved c = λ first begun.
    let chunk = c.in-Some.chunk.now in
    chunk_fed first c.loop-chunk.next c.args.self.now.chunks.items c.deref.result.now c.loop-chunk.read chunk (Ok c.in-Ok.fed) c.deref.ensures.value c.in-Some.ensures.lookup.3 (c.loop-chunk.invariant first begun) c.in-Ok.ensures

pub returns-in-Err-clause-fed : goal.returns-in-Err-clause-fed
returns-in-Err-clause-fed c = λ first begun.
    let chunk = c.in-Some.chunk.now in
    chunk_fed first c.loop-chunk.next c.args.self.now.chunks.items c.deref.result.now c.loop-chunk.read chunk (Err c.in-Err.refusal) c.deref.ensures.value c.in-Some.ensures.lookup.3 (c.loop-chunk.invariant first begun) c.in-Err.ensures
