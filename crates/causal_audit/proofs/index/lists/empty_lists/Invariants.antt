use Rattle.causal_audit.proofs.Common.{◌≡◌, [], vec_len, All}
use Rattle.causal_audit.proofs.index.lists.empty_lists.Given as goal

abbrev pub invariant-loop : goal.invariant-loop
invariant-loop l = record { count : vec_len l.lists ≡ l.counter; empty : All (λ list. list.items ≡ []) l.lists.items }
