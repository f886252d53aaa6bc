use Rattle.causal_clock.specs.Inside.Lanes.{AreEmpty}
use Rattle.causal_clock.proofs.first_lanes.Given as goal

abbrev pub invariant-loop : goal.invariant-loop
invariant-loop l = AreEmpty l.lanes.items l.counter
