use Rattle.std.proofs.Common.{◌≡◌, ◌*◌, ◌≤◌}
use Rattle.causal_audit.specs.Shares.{walked}
use Rattle.causal_audit.specs.Inside.Group.OpenDeliveries.{open_lengths_of}
use Rattle.causal_audit.proofs.prepared_run.total_walk_length.Given as goal

-- the walks so far
abbrev pub invariant-loop-walk : goal.invariant-loop-walk
invariant-loop-walk l = record {
  sum : l.walked ≡ walked (open_lengths_of l.candidates) l.walk;
  small : l.walked ≤ l.walk * 4294967296;
}
