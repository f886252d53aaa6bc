use Rattle.std.proofs.Common.{◌≤◌, List, length}
use Rattle.std.specs.Prelude.{vec_len, vec_capacity}
use Rattle.causal_name.specs.declared.Det.{Det}
use Rattle.causal_trace.specs.declared.entry.Entry.{Entry}
use Rattle.causal_trace.specs.Past.{logs}
use Rattle.causal_explain.specs.Inside.Validities.{AreValidities}
use Rattle.causal_explain.specs.ProcessFacts.{AreHoldings}
use Rattle.causal_explain.proofs.holdings.holdings_in.Given as goal

-- holds of the processes so far
abbrev pub invariant-loop-p : goal.invariant-loop-p
invariant-loop-p l = record {
  told : (past : List Entry) (d : Det) → AreValidities past (λ p state. logs state p d) l.standings → AreHoldings l.p past d l.holdings.items;
  len : vec_len l.holdings ≤ l.p;
  room : length l.standings ≤ vec_capacity l.holdings;
}
