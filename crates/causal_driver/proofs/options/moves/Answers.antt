use Rattle.std.proofs.Common.{arith}
use Rattle.causal_core.specs.CoreView.{core_run}
use Rattle.causal_driver.specs.Options.{moves_of, moves}
use Rattle.causal_driver.proofs.MoveLemmas.{moves_at_next}
use Rattle.causal_driver.proofs.options.moves.Goals as goal

-- src/options.rt:72:5
pub loop-p-preserved : goal.loop-p-preserved
loop-p-preserved g c =
    let r = core_run c.args.core.now in
    moves_at_next (moves_of r) (moves r) c.loop-p.found.items c.push_moves.new.moves.items c.loop-p.p c.processes-p-end.result (omega (arith, c.loop-p-test.true)) c.in_ok-push_moves.ensures c.loop-p.invariant
