use Rattle.causal_audit.proofs.Common.{◌≡◌, ◌<◌, length, ap, arith}
use Rattle.causal_audit.specs.Inside.Group.Walk.{position_at}
use Rattle.causal_audit.proofs.group.OpenPositions.{position, zero}
use Rattle.causal_audit.proofs.group.GroupWalk.{passed_more}
use Rattle.causal_audit.proofs.group.group_positions.places_at.Goals as goal

pub loop-delivery-preserved : goal.loop-delivery-preserved
loop-delivery-preserved c = let i = c.loop-delivery.invariant in
    let low : c.loop-delivery.passed < length c.args.candidates.now = c.in-Some.ensures.lookup.3.0 in
    let at : c.in-Some.delivery.now.position ≡ position_at c.args.candidates.now c.loop-delivery.passed = ap position (c.in-Some.ensures.lookup.3.1 zero) in
    let here : position_at c.args.candidates.now c.loop-delivery.passed ≡ c.args.t = grind arith in
    rw c.insert.ensures (passed_more c.args.candidates.now c.args.t c.args.passed.now c.loop-delivery.passed c.loop-delivery.own i low here)
