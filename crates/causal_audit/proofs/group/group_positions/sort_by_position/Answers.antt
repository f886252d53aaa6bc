use Rattle.causal_audit.proofs.Common.{rules}
use Rattle.std.proofs.lemmas.List.Sorted.{IsNonDecreasingBy-from_sort_by_key}
use Rattle.causal_audit.proofs.group.group_positions.sort_by_position.Goals as goal

pub returns-clause-order : goal.returns-clause-order
returns-clause-order c = IsNonDecreasingBy-from_sort_by_key (λ w. w.position) _ c.sort_unstable_by_key.ensures.sorted (λ a r q k. search rules)
