use Rattle.causal_audit.proofs.Common.{arith}
use Rattle.causal_audit.proofs.group.GroupWalk.{put_in}
use Rattle.causal_audit.proofs.group.reach.put.Goals as goal

pub returns-clause-put : goal.returns-clause-put
returns-clause-put c =
    rw c.in_ok-put.ensures
    (put_in c.args.rows.now c.args.start c.args.place _ c.args.position (omega (arith, c.if-position-start.false)) (omega (arith, c.if-i-len.false, c.len.ensures)))
