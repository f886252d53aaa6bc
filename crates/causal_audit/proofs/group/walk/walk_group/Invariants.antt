use Rattle.std.proofs.Common.{◌≤◌}
use Rattle.causal_audit.specs.Inside.Group.Walk.{AreStillOpen, CountsEarlier, HasRowsFor, HaveNoOrphans, IsWalkState}
use Rattle.causal_audit.proofs.group.walk.walk_group.Given as goal

-- the state of this instant, and no delivery has had an orphan so far
abbrev pub invariant-loop-t : goal.invariant-loop-t
invariant-loop-t l = record {
  from : l.start ≤ l.t;
  rows : HasRowsFor l.start l.end l.buffers;
  followed : IsWalkState l.trace.recording l.candidates l.start l.t l.buffers;
  none : HaveNoOrphans l.trace.recording l.f l.candidates l.t;
  unresolved : AreStillOpen l.candidates l.t l.unresolved;
  passed : CountsEarlier l.candidates l.t l.passed;
}
