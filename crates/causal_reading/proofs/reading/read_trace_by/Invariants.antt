use Rattle.std.proofs.Common.{◌≡◌, ◌++◌, List, ℕ, length}
use Rattle.causal_trace.specs.Limits.{default_entries}
use Rattle.causal_text.specs.PushReaders.{HasReceived}
use Rattle.causal_reading.proofs.reading.read_trace_by.Given as goal

abbrev pub invariant-loop-left : goal.invariant-loop-left
invariant-loop-left g l = (done : List ℕ) × (l.bytes ≡ done ++ l.left) × HasReceived default_entries l.reader done

abbrev pub decreases-loop-left : goal.decreases-loop-left
decreases-loop-left g l = length l.left
