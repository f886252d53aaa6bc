use Rattle.std.proofs.Common.{[], ◌∷◌, length, length-append, refl, ap, arith}
use Rattle.causal_clock.specs.Inside.Lanes.{rises_in}
use Rattle.causal_clock.proofs.Columns.{row_same}
use Rattle.causal_clock.proofs.Lanes.{row_pushed}
use Rattle.causal_clock.proofs.lane.LaneColumns.extend_row.Goals as goal

pub loop-init : goal.loop-init
loop-init c = record { events = refl; same = refl; long = omega (arith, c.len-counter.ensures, c.args.self.now.row.ok) }

pub loop-preserved : goal.loop-preserved
loop-preserved c = record {
  events = c.loop.invariant.events;
  same = c.loop.invariant.same;
  long = omega (arith, ap length c.in_ok-push.ensures.items, length-append c.loop.self.row.items (0 ∷ []), c.loop.invariant.long);
}

pub invariant_of-self : goal.invariant_of-self
invariant_of-self c =
    let row = c.loop.self.row.items in
    let pushed = c.push.new.self.items in
    record { kept = row_same c.loop.self.events c.loop.self.last (rises_in c.loop.self) (rises_in c.loop.self) row pushed (λ source. refl) (row_pushed _ row pushed c.push.ensures.items) c.loop.self.kept }
