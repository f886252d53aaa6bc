use Rattle.std.proofs.Common.{◌∙◌, ap, sym}
use Rattle.std.proofs.lemmas.List.Filters.{dedup_is}
use Rattle.std.proofs.lemmas.List.Kept.{IsStrictlySortedBy-dedup}
use Rattle.std.proofs.lemmas.List.Sorted.{list_any-IsPermutation}
use Rattle.std.specs.List.{list_any}
use Rattle.causal_name.specs.Names.{same_det, is_ascending}
use Rattle.causal_name.proofs.Lemmas.DetOrder.{dets_total, det_ties}
use Rattle.causal_log.proofs.EntryLemmas.{strict_ascends}
use Rattle.causal_log.proofs.MergeLemmas.{any_once}
use Rattle.causal_log.proofs.changed_batch.in_order_once.Goals as goal

pub returns-clause-ascending : goal.returns-clause-ascending
returns-clause-ascending c =
    ap is_ascending (dedup_is same_det _ _ c.dedup.ensures.filtered) ∙ strict_ascends _ (IsStrictlySortedBy-dedup dets_total det_ties _ c.in_ok-sort.ensures.sorted)

pub returns-clause-all : goal.returns-clause-all
returns-clause-all c = λ q none.
    ap (list_any (same_det q)) (sym c.in_ok-sorted.ensures.items)
    ∙ list_any-IsPermutation (same_det q) _ _ c.sort.ensures.permutation
    ∙ sym (any_once q _)
    ∙ sym (ap (list_any (same_det q)) (dedup_is same_det _ _ c.dedup.ensures.filtered))
    ∙ none
