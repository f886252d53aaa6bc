use Rattle.std.proofs.Common.{refl}
use Rattle.std.proofs.lemmas.Result.{err_from_is_err_and}
use Rattle.causal_wire.specs.Reading.{read_view, nothing, read_next_number}
use Rattle.causal_wire.proofs.Loop.{goes_on, fails, is_done}
use Rattle.causal_wire.proofs.lists.read_view.Goals as goal

pub returns-in_err-number : goal.returns-in_err-number
returns-in_err-number c =
    let p = err_from_is_err_and c.from_residual.result c.from_residual.ensures.1 in
    rw (p.1, p.2) (fails nothing read_next_number c.in_err-number.field-0.0 tt c.loop.view.items c.args.n c.loop.counter c.loop.rest.now (read_view c.args.n c.args.bytes.now) c.loop-test.true c.in_err-number.ensures c.loop.invariant)

pub loop-preserved : goal.loop-preserved
loop-preserved c =
    rw c.in_ok-push.ensures.items
    (goes_on nothing read_next_number tt tt c.loop.view.items c.args.n c.loop.counter c.loop.rest.now c.in_ok-number.number c.in_ok-number.after.now (read_view c.args.n c.args.bytes.now) c.loop-test.true c.in_ok-number.ensures refl c.loop.invariant)

pub returns : goal.returns
returns c = is_done nothing read_next_number tt c.loop.view.items c.args.n c.loop.counter c.loop.rest.now (read_view c.args.n c.args.bytes.now) c.loop-test.false c.loop.invariant
