use Rattle.std.proofs.Common.{◌≡◌, ◌≤◌, ◌+◌, drop, length}
use Rattle.causal_log.specs.Logs.{after_absorb, log_of}
use Rattle.causal_log.proofs.table.learn_items.Given as goal

abbrev pub invariant-loop-item : goal.invariant-loop-item
invariant-loop-item l = record {
  learned : after_absorb (drop l.item-index l.items) l.fn.from l.fn.me (log_of l.entries.entries) ≡ after_absorb l.items l.fn.from l.fn.me (log_of l.fn.entries.entries);
  room : length l.items ≤ l.entries.spare + l.item-index;
  spare : l.fn.entries.spare ≤ l.entries.spare + l.item-index;
}
