use Rattle.std.proofs.Common.{◌≡◌, subst, arith}
use Rattle.causal_clock.specs.Inside.Lanes.{AreEmpty}
use Rattle.causal_clock.proofs.Lanes.{empty_none, empty_pushed}
use Rattle.causal_clock.proofs.first_lanes.Goals as goal

pub loop-init : goal.loop-init
loop-init c = rw c.in_ok-lanes.ensures.items empty_none

pub loop-preserved : goal.loop-preserved
loop-preserved c = rw c.in_ok-push.ensures.items (empty_pushed c.loop.lanes.items c.new.result c.loop.counter c.new.ensures.events c.new.ensures.columns c.loop.invariant)

pub returns : goal.returns
returns c =
    let all : c.loop.counter ≡ c.args.count = omega (arith, c.loop-test.false, c.loop.auto.counter-end) in
    subst (AreEmpty c.loop.lanes.items) all c.loop.invariant
