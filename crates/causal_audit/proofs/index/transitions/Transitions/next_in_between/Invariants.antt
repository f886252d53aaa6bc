use Rattle.std.proofs.Common.{ℕ, ◌<◌, ◌≤◌, ◌-◌, length, get_or}
use Rattle.causal_audit.proofs.index.DownAfterTurns.{PassNone}
use Rattle.causal_audit.proofs.index.transitions.Transitions.next_in_between.Given as goal

-- the transitions left are at or after `from`, and those passed restart none of these processes
abbrev pub invariant-loop-position : goal.invariant-loop-position
invariant-loop-position l = record {
  left : (i v : ℕ) → l.passed ≤ i → i < length l.self.positions.items → l.from ≤ get_or l.self.positions.items i v;
  none : PassNone l.trace.recording.past l.self.positions.items l.members l.from l.passed;
}

abbrev pub decreases-loop-position : goal.decreases-loop-position
decreases-loop-position l = length l.self.positions.items - l.passed
