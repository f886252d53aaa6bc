-- What logs and lists of determinants have.
use Rattle.std.proofs.Common.{ℕ, ◌≡◌, true, false, ◌||◌, List, [], ◌∷◌, is_some, unwrap_or, refl, ap, ◌∙◌, arith}
use Rattle.std.specs.Ordering.{nat_cmp}
use Rattle.std.specs.declared.cmp.Ordering.{Ordering}
use Rattle.std.specs.declared.cmp.Ordering.TheVariants.{Less, Equal, Greater}
use Rattle.std.specs.FinMap as fin
use Rattle.std.specs.FinSet as set
use Rattle.std.proofs.lemmas.Bool.{both_ways}
use Rattle.causal_name.specs.declared.Det.{Det}
use Rattle.causal_name.specs.Names.{det_cmp, same_det}
use Rattle.causal_name.proofs.Lemmas.DetOrder.{exact_dets}
use Rattle.causal_trace.specs.Past.{list_has}
use Rattle.causal_log.specs.declared.batch.Item.{Item}
use Rattle.causal_log.specs.Knowledge.{unknown}
use Rattle.causal_log.specs.Logs.{LogMap, dets_of}
use Rattle.causal_log.proofs.Lemmas.Searches.{any_map}
use Rattle.causal_protocol.specs.Naming.{with_own, match_ordering}
use Rattle.causal_protocol.specs.MemoryQueries.{has_entry, log_knows_holder, log_knows_stable, has_item}

-- an empty log knows no holders
pub none_holds : (d : Det) (q : ℕ) → log_knows_holder d q fin.empty ≡ false
none_holds d q = ap (λ o. set.contains (unwrap_or o unknown).holders q) (fin.get-empty det_cmp d) ∙ set.contains-empty nat_cmp q

-- an empty log knows nothing to be stable
pub none_stable : (d : Det) → log_knows_stable d fin.empty ≡ false
none_stable d = ap (λ o. (unwrap_or o unknown).stable) (fin.get-empty det_cmp d)

-- an empty log has no determinant
pub none_entry : (d : Det) → has_entry d fin.empty ≡ false
none_entry d = ap is_some (fin.get-empty det_cmp d)

-- a determinant with a known holder is logged
pub entry_of_holder : (log : LogMap) (d : Det) (q : ℕ) → log_knows_holder d q log ≡ true → has_entry d log ≡ true
entry_of_holder log d q h = grind (arith, both_ways, set.contains-empty)

-- membership after one more determinant is inserted
pub own_have : (own : Det) (ds : List Det) (d : Det) → list_has (with_own own ds) d ≡ (same_det d own || list_has ds d)
unfolding with_own
own_have own [] d = refl
own_have own (x ∷ ds) d = by (det_cmp own x) refl (own_have own ds d)
  where
    by : (o : Ordering) → det_cmp own x ≡ o → list_has (with_own own ds) d ≡ (same_det d own || list_has ds d) → list_has (match_ordering o (own ∷ x ∷ ds) (x ∷ ds) (x ∷ with_own own ds)) d ≡ (same_det d own || (same_det d x || list_has ds d))
    by Less is rest = refl
    by Equal is rest = grind (arith, exact_dets own x is)
    by Greater is rest = grind arith

-- membership in the determinants of items
pub items_have : (items : List Item) (d : Det) → list_has (dets_of items) d ≡ has_item d items
items_have items d = any_map (λ item. item.det) (same_det d) (λ item. same_det d item.det) (λ x. refl) items
