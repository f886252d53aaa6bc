use Rattle.std.proofs.Common.{Some, refl}
use Rattle.causal_wire.specs.Reading.{item_det, read_item, read_items}
use Rattle.causal_wire.proofs.Loop.{goes_on, fails, is_done}
use Rattle.causal_wire.proofs.lists.read_items.Goals as goal

pub returns-in-Err : goal.returns-in-Err
returns-in-Err c =
    fails item_det (read_item c.args.n c.args.source.0) c.in-Err.fault c.loop.last c.loop.items.items c.in_ok-count.count c.loop.counter c.loop.rest.now (read_items c.args.n c.args.source.0 c.args.bytes.now) c.loop-test.true c.in-Err.ensures c.loop.invariant

pub loop-preserved : goal.loop-preserved
loop-preserved c =
    rw c.in_ok-push.ensures.items
    (goes_on item_det (read_item c.args.n c.args.source.0) c.loop.last (Some c.in-Ok.read.0.det) c.loop.items.items c.in_ok-count.count c.loop.counter c.loop.rest.now c.in-Ok.read.0 c.in-Ok.read.1.now (read_items c.args.n c.args.source.0 c.args.bytes.now) c.loop-test.true c.in-Ok.ensures refl c.loop.invariant)

pub returns : goal.returns
returns c = is_done item_det (read_item c.args.n c.args.source.0) c.loop.last c.loop.items.items c.in_ok-count.count c.loop.counter c.loop.rest.now (read_items c.args.n c.args.source.0 c.args.bytes.now) c.loop-test.false c.loop.invariant
