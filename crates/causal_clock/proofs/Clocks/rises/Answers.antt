use Rattle.std.proofs.Common.{sym, ◌∙◌, subst}
use Rattle.causal_clock.specs.Rises.{AreRises}
use Rattle.causal_clock.proofs.Lanes.{column_was}
use Rattle.causal_clock.proofs.Fields.{columns_in}
use Rattle.causal_clock.proofs.ColumnRises.{rises_are}
use Rattle.causal_clock.proofs.Clocks.rises.Goals as goal

pub returns : goal.returns
returns c =
    let lanes = c.self.inside.lanes.items in
    let is = column_was lanes c.args.lane c.index.result.now c.index.result.now (rw (← c.self.view_is) at c.requires.lane) c.index.ensures c.args.source ∙ sym c.rises.ensures in
    rw (← c.self.view_is) (subst (AreRises _ c.args.lane c.args.source) is (rises_are _ _ _ (columns_in lanes) c.self.invariant.keeps c.args.lane c.args.source c.requires.other_lane))
