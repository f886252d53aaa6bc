use Rattle.std.specs.FinSet.{len}
use Rattle.causal_audit.proofs.group.GroupWalk.{HaveRenewed}
use Rattle.causal_audit.proofs.group.copies.update_copies.Given as goal

-- the copies at all places except the remaining ones are updated
abbrev pub invariant-loop-place : goal.invariant-loop-place
invariant-loop-place l = HaveRenewed l.entry l.mentioned l.fn.touched l.rest l.fn.copies.items l.copies.items

abbrev pub decreases-loop-place : goal.decreases-loop-place
decreases-loop-place l = len l.rest
