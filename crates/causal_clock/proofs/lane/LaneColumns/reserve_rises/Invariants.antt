use Rattle.std.proofs.Common.{◌≡◌, ℕ, ◌<◌, get_or}
use Rattle.causal_clock.specs.Inside.Lanes.{rises_in, spare_rises}
use Rattle.causal_clock.proofs.lane.LaneColumns.reserve_rises.Given as goal

abbrev pub invariant-loop-source : goal.invariant-loop-source
invariant-loop-source l = record {
  events : l.self.events ≡ l.initial.self.events;
  last : l.self.last ≡ l.initial.self.last;
  row : l.self.row ≡ l.initial.self.row;
  same : rises_in l.self ≡ rises_in l.initial.self;
  spare : (k : ℕ) → k < l.source → get_or l.self.row.items k 0 < get_or l.counts k 0 → 0 < get_or (spare_rises l.self) k 0;
}
