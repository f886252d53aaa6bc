-- The entries of a map ascend, and so do those that pass a filter.
use Rattle.std.proofs.Common.{arith, inl, inr, ◌≡◌, ◌∙◌, Bool, true, List, [], ◌∷◌, filter, refl, sym, ap, true≢false}
use Rattle.std.proofs.lemmas.Bool.{and_parts, or_cases}
use Rattle.std.specs.List.{list_any}
use Rattle.std.specs.FinMap as fin
use Rattle.std.specs.FinMap.Entries.{is_sorted, below_all}
use Rattle.std.specs.Map.{keys_of}
use Rattle.std.specs.Ordering.{is_lt}
use Rattle.std.specs.declared.cmp.Ordering.{Ordering}
use Rattle.std.specs.declared.cmp.Ordering.TheVariants.{Less}
use Rattle.causal_name.specs.declared.Det.{Det}
use Rattle.causal_name.specs.Names.{det_cmp, same_det, is_before, is_ascending}
use Rattle.causal_name.proofs.Lemmas.DetOrder.{dets_total, same_is}
use Rattle.causal_log.proofs.Lemmas.Searches.{shown}

-- the tail of an ascending list ascends
pub ascending_tail : (d : Det) (ds : List Det) → is_ascending (d ∷ ds) ≡ true → is_ascending ds ≡ true
ascending_tail d ds h = grind arith

-- if `is_lt` holds, the ordering is `Less`
pub is_less : (r : Ordering) → is_lt r ≡ true → r ≡ Less
is_less r e = grind arith

-- the order of determinants is transitive
pub before_trans : (x y z : Det) → is_before x y ≡ true → is_before y z ≡ true → is_before x z ≡ true
before_trans x y z h k = ap is_lt (dets_total.trans x y z (is_less (det_cmp x y) h) (is_less (det_cmp y z) k))

-- an ascending list without its second element ascends
pub ascending_skip : (d e : Det) (ds : List Det) → is_ascending (d ∷ e ∷ ds) ≡ true → is_ascending (d ∷ ds) ≡ true
ascending_skip d e [] h = refl
ascending_skip d e (f ∷ ds) h = grind (arith, and_parts, before_trans)

-- the first of an ascending list is before the others
pub first_before : (d : Det) (ds : List Det) (det : Det) → is_ascending (d ∷ ds) ≡ true → list_any (same_det det) ds ≡ true → is_before d det ≡ true
first_before d [] det h there = absurd (true≢false (sym there))
first_before d (e ∷ ds) det h there =
    let two = and_parts (is_before d e) (is_ascending (e ∷ ds)) h in
    elim (or_cases (same_det det e) (list_any (same_det det) ds) there) [ inl is ↦ ap (is_before d) (same_is det e is) ∙ two.0 | inr at ↦ before_trans d e det two.0 (first_before e ds det two.1 at) ]

module _ {X : Type 0} where
  below_filter : (p : Det × X → Bool) (d : Det) (es : List (Det × X)) → below_all det_cmp d es ≡ true → below_all det_cmp d (filter p es) ≡ true
  below_filter p d [] h = refl
  below_filter p d (e ∷ es) h = grind (arith, below_filter p d es, and_parts)

  sorted_filter : (p : Det × X → Bool) (es : List (Det × X)) → is_sorted det_cmp es ≡ true → is_sorted det_cmp (filter p es) ≡ true
  sorted_filter p [] h = refl
  sorted_filter p (e ∷ es) h = grind (arith, sorted_filter p es, and_parts, below_filter)

  keys_ascend : (es : List (Det × X)) → is_sorted det_cmp es ≡ true → is_ascending (keys_of es) ≡ true
  keys_ascend [] h = refl
  keys_ascend (e ∷ []) h = refl
  keys_ascend (e ∷ f ∷ es) h = grind (arith, keys_ascend (f ∷ es), and_parts)

  -- the keys of a map ascend
  pub map_ascends : (m : fin.FinMap det_cmp X) → is_ascending (fin.keys m) ≡ true
  map_ascends m = keys_ascend (fin.entries m) (shown _ (fin.entries_sorted m))

  -- the keys of the entries that pass a filter ascend
  pub filter_ascends : (p : Det × X → Bool) (m : fin.FinMap det_cmp X) → is_ascending (keys_of (filter p (fin.entries m))) ≡ true
  filter_ascends p m = keys_ascend (filter p (fin.entries m)) (sorted_filter p (fin.entries m) (shown _ (fin.entries_sorted m)))
