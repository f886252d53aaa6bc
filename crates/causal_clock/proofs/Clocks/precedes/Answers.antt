use Rattle.std.proofs.Common.{arith}
use Rattle.causal_clock.proofs.Fields.{tells_event}
use Rattle.causal_clock.proofs.Clocks.precedes.Goals as goal

pub returns : goal.returns
returns c =
    let told = tells_event c.self.inside c.args.i _ c.self.invariant (rw (← c.self.view_is) at c.requires.earlier) c.index-first.ensures in
    let reach = rw (← c.self.view_is) at c.reach.ensures in
    rw (← c.self.view_is) (grind (arith, told, reach.first c.args.i))
