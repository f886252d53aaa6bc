use Rattle.std.proofs.Common.{◌≡◌, length}
use Rattle.causal_clock.specs.Inside.Lanes.{rises_in, SameColumns}
use Rattle.causal_clock.proofs.lane.LaneColumns.add_columns.Given as goal

abbrev pub invariant-loop : goal.invariant-loop
invariant-loop l = record {
  events : l.self.events ≡ l.initial.self.events;
  same : SameColumns l.initial.self l.self;
  long : length (rises_in l.self) ≡ l.counter;
}
