use Rattle.std.proofs.Common.{◌≤◌, List, ℕ, length, vec_len}
use Rattle.std.specs.Io.KnownBytes.{Consumes}
use Rattle.causal_text.specs.PushReaders.{HasReceived}
use Rattle.causal_reading.specs.Inside.Feeding.{IsBufferSize}
use Rattle.causal_reading.proofs.reading.read_pieces.Given as goal

abbrev pub invariant-loop-i : goal.invariant-loop-i
invariant-loop-i g l =
    (read : List ℕ) × Consumes (g.I.Read.remaining l.fn.source) (g.I.Read.remaining l.source) read × HasReceived l.fn.limits.entries l.reader read × (l._i ≤ length read) × IsBufferSize l.fn.workers (vec_len l.buffer)
