use Rattle.std.proofs.Common.{◌≡◌, length}
use Rattle.causal_clock.specs.Inside.Lanes.{rises_in}
use Rattle.causal_clock.proofs.lane.LaneColumns.extend_row.Given as goal

abbrev pub invariant-loop : goal.invariant-loop
invariant-loop l = record {
  events : l.self.events ≡ l.initial.self.events;
  same : rises_in l.self ≡ rises_in l.initial.self;
  long : length l.self.row.items ≡ l.counter;
}
