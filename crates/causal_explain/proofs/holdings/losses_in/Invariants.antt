use Rattle.std.proofs.Common.{◌≤◌, reverse, length}
use Rattle.std.specs.Prelude.{vec_len, vec_capacity}
use Rattle.causal_name.specs.declared.Det.{Det}
use Rattle.causal_trace.specs.Past.{logs}
use Rattle.causal_explain.specs.Inside.Validities.{AreValidities}
use Rattle.causal_explain.specs.ProcessFacts.{AreLosses}
use Rattle.causal_explain.proofs.holdings.losses_in.Given as goal

-- holds of the processes so far
abbrev pub invariant-loop-p : goal.invariant-loop-p
invariant-loop-p l = record {
  told : (d : Det) → AreValidities (reverse l.entries) (λ p state. logs state p d) l.standings → AreLosses l.p (reverse l.entries) d l.losses.items;
  len : vec_len l.losses ≤ l.p;
  room : length l.standings ≤ vec_capacity l.losses;
}
