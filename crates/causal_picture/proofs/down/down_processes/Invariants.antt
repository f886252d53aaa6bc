use Rattle.causal_trace.specs.State.{past_at}
use Rattle.causal_picture.specs.Inside.Downs.{ShowsDown}
use Rattle.causal_picture.proofs.down.down_processes.Given as goal

-- the down processes after the entries so far
abbrev pub invariant-loop-entry : goal.invariant-loop-entry
invariant-loop-entry l = ShowsDown (past_at l.entries l.entry-index) l.down
