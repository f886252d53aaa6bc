use Rattle.std.proofs.Common.{arith}
use Rattle.causal_explain.proofs.WayLemmas.{nearest_delivered}
use Rattle.causal_explain.proofs.paths.nearest_before.Goals as goal

pub returns-in-Deliver : goal.returns-in-Deliver
returns-in-Deliver c past i ways lanes =
    let d = c.in-Deliver in
    rw (d.is, c.closer_event.ensures)
    (nearest_delivered past i d.to d.send d.rsn d.listed _ _ (lanes d.to.0 (omega arith)) (c.reached_at.ensures past i ways))
