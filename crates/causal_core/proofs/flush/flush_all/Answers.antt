use Rattle.std.proofs.Common.{◌∙◌, ap, refl, arith, length}
use Rattle.causal_core.proofs.FlushSteps.{flushed_one, still_up, still_logged}
use Rattle.causal_core.proofs.flush.flush_all.Goals as goal

pub loop-det-preserved : goal.loop-det-preserved
loop-det-preserved g c =
    let i = c.loop-det.det-index in
    let dets = c.args.dets.now in
    let inv = c.loop-det.invariant in
    let p = c.args.p in
    let ok = c.in_default.ensures.ok in
    let longer = ap (λ x. length x.recording.past) ok in
    record {
      run = flushed_one c.args.run_data.now.run c.loop-det.run_data.run c.flush_one.new.run_data.run p dets i _ _ c.loop-det-test.true refl inv.run ok;
      done = omega (arith, inv.done);
      up = still_up c.loop-det.run_data.run c.flush_one.new.run_data.run p _ ok inv.up;
      logged = still_logged c.loop-det.run_data.run c.flush_one.new.run_data.run p _ ok inv.up dets inv.logged;
      filled = c.flush_one.ensures.filled ∙ inv.filled;
      long = omega (arith, longer, inv.long);
      room = omega (arith, c.flush_one.ensures.room, inv.room);
      stored = c.flush_one.ensures.stored;
      faults = omega (arith, c.flush_one.ensures.faults, inv.faults);
      bodies = c.flush_one.ensures.bodies ∙ inv.bodies;
    }
