use Rattle.std.proofs.Common.{◌≡◌, ◌≤◌, List, ℕ, length}
use Rattle.std.specs.Io.KnownBytes.{Consumes}
use Rattle.causal_text.specs.PushReaders.{HasReceived}
use Rattle.causal_workers.specs.Streaming.{HasNoEarlyBreach}
use Rattle.causal_workers.proofs.streaming.judge_stream.Given as goal

abbrev pub invariant-loop-i : goal.invariant-loop-i
invariant-loop-i g l =
    (read : List ℕ) × Consumes (g.I.Read.remaining l.fn.source) (g.I.Read.remaining l.source) read × HasReceived l.fn.limits.entries l.prefix read × HasNoEarlyBreach l.fn.limits.entries read l.fn.f × (l._i ≤ length read)
    × (l.timer.looks ≡ l.fn.looks)
