use Rattle.std.proofs.Common.{Some, refl}
use Rattle.causal_wire.specs.Reading.{entry_det, read_entry, read_entries}
use Rattle.causal_wire.proofs.Loop.{goes_on, fails, is_done}
use Rattle.causal_wire.proofs.lists.read_entries.Goals as goal

pub returns-in-Err : goal.returns-in-Err
returns-in-Err c =
    fails entry_det (read_entry c.args.n c.args.source.0) c.in-Err.fault c.loop.last c.loop.entries.items c.in_ok-count.count c.loop.counter c.loop.rest.now (read_entries c.args.n c.args.source.0 c.args.bytes.now) c.loop-test.true c.in-Err.ensures c.loop.invariant

pub loop-preserved : goal.loop-preserved
loop-preserved c =
    rw c.in_ok-push.ensures.items
    (goes_on entry_det (read_entry c.args.n c.args.source.0) c.loop.last (Some c.in-Ok.read.0.item.det) c.loop.entries.items c.in_ok-count.count c.loop.counter c.loop.rest.now c.in-Ok.read.0 c.in-Ok.read.1.now (read_entries c.args.n c.args.source.0 c.args.bytes.now) c.loop-test.true c.in-Ok.ensures refl c.loop.invariant)

pub returns : goal.returns
returns c = is_done entry_det (read_entry c.args.n c.args.source.0) c.loop.last c.loop.entries.items c.in_ok-count.count c.loop.counter c.loop.rest.now (read_entries c.args.n c.args.source.0 c.args.bytes.now) c.loop-test.false c.loop.invariant
