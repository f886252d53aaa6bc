use Rattle.std.proofs.Common.{◌≡◌, ℕ, ◌<◌, ◌≤◌, get_or, length}
use Rattle.causal_clock.specs.Inside.Columns.{column_in, column_after}
use Rattle.causal_clock.specs.Inside.Lanes.{rises_in, spare_rises}
use Rattle.causal_clock.proofs.lane.LaneColumns.append_counts.Given as goal

abbrev pub invariant-loop-source : goal.invariant-loop-source
invariant-loop-source l = record {
  events : l.self.events ≡ l.initial.self.events;
  long : length (rises_in l.self) ≡ length (rises_in l.initial.self);
  counted : length l.self.row.items ≡ length l.initial.self.row.items;
  done : (k : ℕ) → k < l.source → column_in (rises_in l.self) k ≡ column_after (column_in (rises_in l.initial.self) k) l.self.events (get_or l.counts k 0);
  left : (k : ℕ) → l.source ≤ k → column_in (rises_in l.self) k ≡ column_in (rises_in l.initial.self) k;
  spare : (k : ℕ) → l.source ≤ k → get_or (spare_rises l.self) k 0 ≡ get_or (spare_rises l.initial.self) k 0;
  counts : (k : ℕ) → l.source ≤ k → get_or l.self.row.items k 0 ≡ get_or l.initial.self.row.items k 0;
}
