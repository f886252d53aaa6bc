use Rattle.causal_audit.proofs.Common.{arith}
use Rattle.causal_audit.proofs.group.GroupReach.{told_before}
use Rattle.causal_audit.proofs.group.reach.ReachSets.reaching_places.Goals as goal

pub returns-then-position-self : goal.returns-then-position-self
returns-then-position-self c =
    rw c.none.ensures (told_before c.args.self.now c.args.position (omega (arith, c.if-position-self.true)))
