use Rattle.std.proofs.Common.{◌≡◌, ◌≤◌}
use Rattle.causal_trace.specs.State.{past_at}
use Rattle.causal_trace.specs.Past as past
use Rattle.causal_line.proofs.counts.counts_in.Given as goal

-- the values after the entries so far
abbrev pub invariant-loop-e : goal.invariant-loop-e
invariant-loop-e l = record {
  sent : l.sends ≡ past.sends (past_at l.entries l.e-index) l.p.0;
  few_sent : l.sends ≤ l.e-index;
  delivered : l.deliveries ≡ past.deliveries (past_at l.entries l.e-index) l.p.0;
  few_delivered : l.deliveries ≤ l.e-index;
}
