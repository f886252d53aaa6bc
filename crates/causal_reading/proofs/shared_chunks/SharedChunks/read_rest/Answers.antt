use Rattle.std.proofs.Common.{Err, refl}
use Rattle.causal_reading.proofs.SharingLemmas.{all_fed}
use Rattle.causal_reading.proofs.shared_chunks.SharedChunks.read_rest.Goals as goal

pub returns-in-Ok : goal.returns-in-Ok
returns-in-Ok c = λ first begun.
    all_fed first c.args.self.now.chunks.items c.read_from.result.read c.read_from.result.fed (c.read_from.ensures.all refl) (c.read_from.ensures.fed first (rw c.in-Ok.is at begun))

pub returns-in-Err : goal.returns-in-Err
returns-in-Err c = λ first begun. all_fed first c.args.self.now.chunks.items c.args.begun.read (Err c.in-Err.refusal) tt (rw c.in-Err.is at begun)
