use Rattle.std.proofs.Common.{◌≡◌, sym, ◌∙◌}
use Rattle.std.specs.Arc.{arc_value}
use Rattle.causal_reading.specs.Inside.Sharing.{bytes_of}
use Rattle.causal_reading.proofs.readers.feed_by.Goals as goal

pub returns : goal.returns
returns g c =
    let same : arc_value c.in-Ok-try_clone.own ≡ c.deref-3.result.now = c.in-Ok-try_clone.ensures ∙ sym c.deref-3.ensures in
    let bytes : bytes_of c.deref-3.result.now.chunks.items ≡ c.args.piece.now = rw (c.deref-3.ensures, c.in-Ok.ensures.ok) c.in-Some.ensures in
    rw (← bytes) (c.read_rest.ensures c.args.reader (rw same at c.with_workers-begun.ensures))
