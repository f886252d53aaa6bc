use Rattle.std.proofs.Common.{arith}
use Rattle.causal_audit.proofs.index.DownAfterTurns.{last_turned}
use Rattle.causal_audit.proofs.index.transitions.TransitionCursor.down.Goals as goal

pub returns : goal.returns
returns c past t within are walk =
    last_turned past _ _ are.turned t _ within walk.place.inside walk.place.point (omega (arith, c.if-self-eq0.false)) c.index.result.now c.index.ensures
