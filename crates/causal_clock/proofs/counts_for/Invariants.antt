use Rattle.std.proofs.Common.{◌≡◌, ◌≢◌, ℕ, ◌<◌, length, get_or}
use Rattle.causal_clock.specs.Inside.Columns.{SameOrNoNews}
use Rattle.causal_clock.specs.Inside.Fields.{count_at_event}
use Rattle.causal_clock.specs.Inside.Lanes.{rises_in}
use Rattle.causal_clock.proofs.counts_for.Given as goal

abbrev pub invariant-loop-source : goal.invariant-loop-source
invariant-loop-source l = record {
  count : length l.counts.items ≡ l.source;
  own : get_or l.counts.items l.own 0 ≡ 0;
  each : (k : ℕ) → k < l.source → k ≢ l.own → SameOrNoNews (get_or l.to.row.items k 0) (get_or l.counts.items k 0) (count_at_event (rises_in l.from) l.sent k);
}
