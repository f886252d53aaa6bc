use Rattle.std.proofs.Common.{ℕ, ◌<◌, ◌≤◌}
use Rattle.std.specs.Option.{IsSome}
use Rattle.causal_log.proofs.TableLemmas.{entry_of_key}
use Rattle.causal_log.proofs.table.unused_number.Given as goal

-- entries have all numbers so far
abbrev pub invariant-loop-number : goal.invariant-loop-number
invariant-loop-number l = record {
  within : l.number ≤ l.numbers;
  used : (j : ℕ) → j < l.number → IsSome (entry_of_key l.entries.entries l.slot j);
}
