use Rattle.std.proofs.Common.{◌≡◌, ℕ, false}
use Rattle.std.specs.Prelude.{◌&&◌, not, slice_index_or}
use Rattle.std.specs.List.{list_any}
use Rattle.causal_trace.specs.Dependence.{is_delivery_of}
use Rattle.causal_trace.specs.State.{past_at}
use Rattle.causal_explain.proofs.underway.unmark_each_delivered.Given as goal

-- no send is marked whose message an entry so far delivers
abbrev pub invariant-loop-entry : goal.invariant-loop-entry
invariant-loop-entry l = (k : ℕ) → slice_index_or l.marks k false ≡ (slice_index_or l.fn.marks k false && not (list_any (is_delivery_of k) (past_at l.entries l.entry-index)))
