use Rattle.std.proofs.Common.{◌≡◌, List, ℕ, ◌++◌, length}
use Rattle.causal_text.specs.PushReaders.{HasReceived}
use Rattle.causal_workers.specs.Streaming.{HasNoEarlyBreach}
use Rattle.causal_workers.proofs.streaming.feed_and_audit.Given as goal

abbrev pub invariant-loop-line : goal.invariant-loop-line
invariant-loop-line g l =
    (done : List ℕ) × (l.piece ≡ done ++ l.left)
    × ((most : ℕ) (b : List ℕ) → HasReceived most l.fn.prefix b → HasNoEarlyBreach most b l.fn.f → HasReceived most l.reader (b ++ done) × HasNoEarlyBreach most (b ++ done) l.fn.f)

abbrev pub decreases-loop-line : goal.decreases-loop-line
decreases-loop-line g l = length l.left
