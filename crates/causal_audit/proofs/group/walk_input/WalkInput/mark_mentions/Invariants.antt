use Rattle.causal_audit.proofs.Common.{◌≡◌, length}
use Rattle.causal_audit.specs.Inside.Group.Walk.{AreBelow, AreMarked}
use Rattle.causal_audit.proofs.group.walk_input.WalkInput.mark_mentions.Given as goal

-- exactly the places so far are marked
abbrev pub invariant-loop-place : goal.invariant-loop-place
invariant-loop-place l = record {
  count : length l.rows ≡ length l.fn.rows;
  marked : AreMarked l.self.run.past l.start l.start l.candidates l.place l.rows;
  below : AreBelow l.place l.rows;
}
