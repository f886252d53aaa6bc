use Rattle.causal_audit.proofs.Common.{◌≡◌, length, take}
use Rattle.causal_audit.specs.Inside.Group.Walk.{HaveMarked}
use Rattle.causal_audit.proofs.group.marks.mark_rows.Given as goal

-- the positions so far
abbrev pub invariant-loop-position : goal.invariant-loop-position
invariant-loop-position l = record {
  count : length l.rows ≡ length l.fn.rows;
  marked : HaveMarked l.start l.place (take l.position-index l.positions) l.fn.rows l.rows;
}
