-- Marks of the events of a kind, by the determinant that their process's volatile log has or lacks.
use Rattle.std.specs.Prelude.{◌≡◌, ℕ, Bool, false, List, length, Option, slice_index_or}
use Rattle.std.specs.List.{find}
use Rattle.causal_name.specs.declared.Det.{Det}
use Rattle.causal_trace.specs.declared.entry.Entry.{Entry}
use Rattle.causal_explain.specs.declared.marks.EventKind.{EventKind}
use Rattle.causal_explain.specs.declared.marks.EventKind.TheVariants.{DeliveryWithoutDet, SendByHolder}
use Rattle.causal_explain.specs.Chains.{lacks_det, lacks_after}
use Rattle.causal_explain.specs.Underway.{holder_sends, is_sent_by_holder}

-- whether an entry is of the kind, by the state after it
abbrev pub is_of_kind : EventKind → List Entry → Det → Entry → Bool
is_of_kind DeliveryWithoutDet past d e = lacks_det past d e
is_of_kind SendByHolder past d e = is_sent_by_holder past d e

-- whether the entry at position k is of the kind
abbrev pub is_of_kind_at : EventKind → List Entry → Det → ℕ → Bool
is_of_kind_at DeliveryWithoutDet past d k = lacks_after past d k
is_of_kind_at SendByHolder past d k = holder_sends past d k

-- one mark for each entry: whether it is of the kind
pub record AreMarks (kind : EventKind) (past : List Entry) (d : Det) (marks : List Bool) : Type 0 where
  pub count : length marks ≡ length past
  pub each : (k : ℕ) → slice_index_or marks k false ≡ is_of_kind_at kind past d k

-- the first of these positions that is marked
abbrev pub first_in : List Bool → List ℕ → Option ℕ
first_in marks = find (λ k. slice_index_or marks k false)
