use Rattle.std.proofs.Common.{length-append, arith, refl}
use Rattle.std.proofs.lemmas.Grind.{common_steps}
use Rattle.std.proofs.lemmas.List.{length-map}
use Rattle.causal_clock.specs.Inside.Lanes.{rises_in}
use Rattle.causal_clock.proofs.Lanes.{column_pushed}
use Rattle.causal_clock.proofs.Columns.{row_same}
use Rattle.causal_clock.proofs.lane.LaneColumns.add_columns.Goals as goal

pub loop-preserved : goal.loop-preserved
loop-preserved c = grind (arith, common_steps, column_pushed, length-map, length-append)

pub invariant_of-self : goal.invariant_of-self
invariant_of-self c =
    record { kept = row_same c.loop.self.events c.loop.self.last (rises_in c.loop.self) _ c.loop.self.row.items c.loop.self.row.items (column_pushed _ c.loop.self.columns.items c.push.new.self.items c.new.result c.push.ensures.items c.new.ensures.items) (λ k. refl) c.loop.self.kept }
