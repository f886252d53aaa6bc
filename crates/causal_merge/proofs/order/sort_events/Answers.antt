use Rattle.std.proofs.Common.{ℕ, rules}
use Rattle.std.proofs.lemmas.List.Sorted.{answers_always}
use Rattle.causal_merge.specs.declared.event.EventAtLine.{EventAtLine}
use Rattle.causal_merge.proofs.order.sort_events.Goals as goal

abbrev key : EventAtLine → ℕ × ℕ × ℕ
key e = (e.event.clock, e.event.process.0, e.line)

pub returns : goal.returns
returns c = record {
  same = c.sort_unstable_by_key.ensures.permutation;
  ascends = c.sort_unstable_by_key.ensures.sorted key (answers_always _ _ _ (λ f a r g called. search rules));
}
