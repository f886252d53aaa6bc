use Rattle.std.proofs.Common.{arith}
use Rattle.std.proofs.lemmas.Bool.Decides.{eqb_tells}
use Rattle.std.proofs.Math.ListN.{set}
use Rattle.std.proofs.lemmas.List.{length-map}
use Rattle.causal_clock.proofs.Lanes.{told_here, told_elsewhere, told_same}
use Rattle.causal_clock.proofs.Columns.{read, row_same}
use Rattle.causal_clock.proofs.lane.LaneColumns.reserve_rises.Goals as goal

pub returns-in_err-reserve_rise-clause-same : goal.returns-in_err-reserve_rise-clause-same
returns-in_err-reserve_rise-clause-same c = grind (arith, length-map, told_same)

pub loop-source-preserved : goal.loop-source-preserved
loop-source-preserved c = grind (arith, length-map, told_same, read, eqb_tells, set, told_here, told_elsewhere)

pub invariant_of-self : goal.invariant_of-self
invariant_of-self c = grind (arith, length-map, told_same, row_same)
