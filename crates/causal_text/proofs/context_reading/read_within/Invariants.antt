use Rattle.std.proofs.Common.{◌≤◌, List, ℕ, length}
use Rattle.std.specs.Io.KnownBytes.{Consumes}
use Rattle.causal_text.specs.PushReaders.{HasReceived}
use Rattle.causal_text.proofs.context_reading.read_within.Given as goal

abbrev pub invariant-loop-i : goal.invariant-loop-i
invariant-loop-i g l = (read : List ℕ) × Consumes (g.R.Read.remaining l.fn.source) (g.R.Read.remaining l.source) read × HasReceived l.fn.limits.entries l.reader read × (l._i ≤ length read)
