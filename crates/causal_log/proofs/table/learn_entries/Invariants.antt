use Rattle.std.proofs.Common.{◌≡◌, ◌≤◌, ◌+◌, drop, length}
use Rattle.causal_log.specs.Logs.{after_learn_all, log_of}
use Rattle.causal_log.proofs.table.learn_entries.Given as goal

abbrev pub invariant-loop-det : goal.invariant-loop-det
invariant-loop-det l = record {
  learned : after_learn_all (drop l.det-index l.others) (log_of l.entries.entries) ≡ after_learn_all l.others (log_of l.fn.entries.entries);
  room : length l.others ≤ l.entries.spare + l.det-index;
  spare : l.fn.entries.spare ≤ l.entries.spare + l.det-index;
}
