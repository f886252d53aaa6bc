use Rattle.std.proofs.Common.{◌≡◌, drop, find}
use Rattle.std.specs.Map.{keys_of}
use Rattle.causal_log.specs.Inside.Ranks.{has_rank}
use Rattle.causal_log.proofs.table.det_at_rank.Given as goal

abbrev pub invariant-loop-det : goal.invariant-loop-det
invariant-loop-det l = record {
  rest : find (λ d. has_rank l.entries l.place d) (keys_of (drop l.det-index l.entries)) ≡ find (λ d. has_rank l.entries l.place d) (keys_of l.entries);
}
