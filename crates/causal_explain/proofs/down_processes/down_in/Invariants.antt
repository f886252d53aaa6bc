use Rattle.std.proofs.Common.{◌≤◌, List, length}
use Rattle.std.specs.Prelude.{vec_len, vec_capacity}
use Rattle.causal_trace.specs.declared.entry.Entry.{Entry}
use Rattle.causal_trace.specs.Past.{is_down}
use Rattle.causal_explain.specs.Inside.Validities.{AreValidities}
use Rattle.causal_explain.specs.ProcessFacts.{AreDown}
use Rattle.causal_explain.proofs.down_processes.down_in.Given as goal

-- holds of the processes so far
abbrev pub invariant-loop-p : goal.invariant-loop-p
invariant-loop-p l = record {
  told : (past : List Entry) → AreValidities past (λ p state. is_down state p) l.standings → AreDown l.p past l.down.items;
  len : vec_len l.down ≤ l.p;
  room : length l.standings ≤ vec_capacity l.down;
}
