-- The map that a log's entries make, and the order of determinants.
use Rattle.std.proofs.Common.{map, length, ◌<◌, Bool, ◌≡◌, ◌∙◌, ◌+◌, ◌&&◌, true, false, cond, List, [], ◌∷◌, Some, slice_index_or, true≢false, refl, sym, ap, subst, arith, IfSome}
use Rattle.std.proofs.lemmas.Option.{IfSome_then}
use Rattle.std.specs.declared.cmp.Ordering.TheVariants.{Less}
use Rattle.std.specs.Ordering.{is_lt}
use Rattle.std.specs.Cmp.{eq_by_cmp_equiv, IsEquivalence}
use Rattle.std.proofs.lemmas.Bool.{false_from_ne_true}
use Rattle.std.proofs.lemmas.List.{nil_from_length, get_or-map, length-map}
use Rattle.std.proofs.lemmas.Map.Keys.{sorted_from_all_adjacent, apart_from_distinct, sorted_head, sorted_tail, IsDistinct-from_sorted, IsDistinct-IsPermutation}
use Rattle.std.specs.Map.{lookup, keys_of}
use Rattle.std.specs.FinMap.{from_entries, insert, get, get-from_entries, get-insert, same_map, find, entries, empty, entries-insert, len-entries, len-empty}
use Rattle.std.specs.FinMap.Entries.{put, by_order}
use Rattle.std.specs.List.{AllByRecursion, IsDistinct}
use Rattle.std.specs.List.Sorted.{IsSorted, IsStrictlySortedBy, IsPermutation, IsSortedBy, IsSortedByKey}
use Rattle.causal_name.specs.declared.Det.{Det}
use Rattle.causal_name.specs.Names.{det_cmp, same_det, is_before, is_ascending}
use Rattle.causal_log.proofs.Lemmas.Searches.{before_apart, same_turned}
use Rattle.causal_log.proofs.Lemmas.Ascents.{before_trans, ascending_skip, ascending_tail, is_less, map_ascends}
use Rattle.causal_name.proofs.Lemmas.DetOrder.{dets_total, exact_dets, det_ties, same_itself, same_is}
use Rattle.std.proofs.lemmas.List.Sorted.{Contains-permutation, IsPermutation-map, IsPermutation-sym}
use Rattle.std.proofs.lemmas.Map.Views.{IfSome-lookup, lookup-from_Contains}
use Rattle.std.specs.FinMap as fin

-- `same_det` is an equivalence
pub det_equiv : IsEquivalence same_det
det_equiv = subst IsEquivalence (sym (λ i x y. det_ties x y i)) (eq_by_cmp_equiv dets_total)

module _ {X : Type 0} where
  -- a search by order and a look-up by equality return the same value for a determinant
  pub find_lookup : (es : List (Det × X)) (q : Det) → find det_cmp q es ≡ lookup (same_det q) es
  find_lookup [] q = refl
  find_lookup (e ∷ es) q = grind (arith, find_lookup es q, det_ties)

  -- the map that entries make has at a determinant what a look-up in the entries returns
  pub get_log : (es : List (Det × X)) (q : Det) → get (from_entries {R = det_cmp} es) q ≡ lookup (same_det q) es
  get_log es q = get-from_entries dets_total es q ∙ find_lookup es q

  -- entries with the same look-ups make the same map
  pub same_log : (es fs : List (Det × X)) → ((q : Det) → lookup (same_det q) es ≡ lookup (same_det q) fs) → from_entries {R = det_cmp} es ≡ from_entries fs
  same_log es fs h = same_map dets_total exact_dets _ _ (λ q. get_log es q ∙ h q ∙ sym (get_log fs q))

  -- entries that differ at one determinant make maps that differ there
  pub inserted : (es fs : List (Det × X)) (d : Det) (x : X) → ((q : Det) → lookup (same_det q) fs ≡ cond (same_det d q) (Some x) (lookup (same_det q) es)) → from_entries {R = det_cmp} fs ≡ insert (from_entries es) d x
  inserted es fs d x h = same_map dets_total exact_dets _ _ (λ q. grind (arith, get_log, h q, det_ties, get-insert, dets_total, eq_by_cmp_equiv dets_total))

-- if the second determinant neither precedes nor equals the first, the first precedes it
pub below : (x y : Det) → is_lt (det_cmp y x) ≡ false → same_det x y ≡ false → det_cmp x y ≡ Less
below x y low apart = grind (arith, det_ties x y, dets_total.antisymm y x)

-- strictly sorted determinants ascend
pub strict_ascends : (ds : List Det) → IsStrictlySortedBy det_cmp ds → is_ascending ds ≡ true
strict_ascends [] h = refl
strict_ascends (d ∷ []) h = refl
strict_ascends (d ∷ e ∷ ds) h = ap (λ r. is_lt r && is_ascending (e ∷ ds)) (sorted_head det_cmp d (e ∷ ds) h).0 ∙ strict_ascends (e ∷ ds) (sorted_tail det_cmp d (e ∷ ds) h)

-- sorted, distinct determinants ascend
pub sorted_ascend : (ds : List Det) → IsSorted det_cmp ds → IsDistinct same_det ds → is_ascending ds ≡ true
sorted_ascend ds sorted distinct =
    strict_ascends ds
    (sorted_from_all_adjacent dets_total ds none (λ k high.
    below (slice_index_or ds k none) (slice_index_or ds (k + 1) none) (sorted k none (omega arith) high) (apart_from_distinct same_det ds k (k + 1) none distinct (omega arith) high)))
  where
    none : Det
    none = record { source = record { 0 = 0 }; ssn = 0; dest = record { 0 = 0 }; rsn = 0 }

-- no determinant comes before itself
pub not_itself : (d : Det) → is_before d d ≡ false
not_itself d = false_from_ne_true (is_before d d) (λ h. true≢false (sym (same_itself d) ∙ before_apart d d h))

-- if d comes before e, e does not come before d
pub not_after : (d e : Det) → is_before d e ≡ true → is_before e d ≡ false
not_after d e h = false_from_ne_true (is_before e d) (λ k. true≢false (sym (before_trans d e d h k) ∙ not_itself d))

-- the first of an ascending list is below the others
below_each : (d : Det) (ds : List Det) → is_ascending (d ∷ ds) ≡ true → AllByRecursion (λ y. det_cmp d y ≡ Less) ds
below_each d [] h = tt
below_each d (e ∷ ds) h = grind (arith, below_each d ds, ascending_skip, is_less (det_cmp d e))

-- ascending determinants are strictly sorted
pub strict : (ds : List Det) → is_ascending ds ≡ true → IsStrictlySortedBy det_cmp ds
unfolding IsStrictlySortedBy
strict [] h = tt
strict (d ∷ ds) h = (below_each d ds h, strict ds (ascending_tail d ds h))

module _ {X : Type 0} where
  -- the determinants of a map are distinct
  pub keys_distinct : (m : fin.FinMap det_cmp X) → IsDistinct same_det (fin.keys m)
  keys_distinct m = subst (λ r. IsDistinct r (fin.keys m)) (sym (λ i x y. det_ties x y i)) (IsDistinct-from_sorted det_cmp (fin.keys m) (strict (fin.keys m) (map_ascends m)))

  put_first : (e : Det × X) (es : List (Det × X)) → AllByRecursion (λ y. det_cmp e.0 y ≡ Less) (keys_of es) → put det_cmp e.0 e.1 es ≡ e ∷ es
  put_first e [] h = refl
  put_first e (f ∷ es) h = ap (λ r. by_order r (e ∷ f ∷ es) ((f.0, e.1) ∷ es) (f ∷ put det_cmp e.0 e.1 es)) h.0

  -- an empty map has no entries
  pub nothing : entries (empty {X = X} {R = det_cmp}) ≡ []
  nothing = nil_from_length (entries (empty {X = X} {R = det_cmp})) (sym (len-entries (empty {X = X} {R = det_cmp})) ∙ len-empty det_cmp X)

  -- entries with ascending determinants are the entries of the map that they make
  pub own_entries : (es : List (Det × X)) → is_ascending (keys_of es) ≡ true → entries (from_entries {R = det_cmp} es) ≡ es
  own_entries [] h = nothing
  own_entries (e ∷ es) h = grind (arith, entries-insert dets_total (from_entries es) e.0 e.1, own_entries es (ascending_tail e.0 (keys_of es) h), put_first e es (below_each e.0 (keys_of es) h))

-- a look-up in a permutation of distinct entries returns what it returns in these
moved_found : {V : Type 0} (es fs : List (Det × V)) (q : Det) → IsPermutation es fs → IsDistinct same_det (keys_of fs) → IfSome (lookup (same_det q) es) (λ v. lookup (same_det q) fs ≡ Some v)
moved_found es fs q moved distinct =
    IfSome_then (lookup (same_det q) es) (IfSome-lookup same_is q es) (λ v at. lookup-from_Contains det_equiv q v fs distinct (Contains-permutation es fs (q, v) moved at))

-- a list that is sorted by what f gives of each element is sorted once f is applied
pub map_sorted : {A B : Type 0} (f : A → B) (lt : B → B → Bool) (xs : List A) → IsSortedBy (λ x y. lt (f x) (f y)) xs → IsSortedBy lt (map f xs)
map_sorted f lt [] sorted k d low high = absurd (omega (arith, high))
map_sorted f lt (x ∷ xs) sorted k d low high =
    let inside : k + 1 < length (x ∷ xs) = omega (arith, high, length-map (x ∷ xs) f) in
    rw (get_or-map f (x ∷ xs) (k + 1) x d inside, get_or-map f (x ∷ xs) k x d (omega (arith, inside))) (sorted k x low inside)

module _ {V : Type 0} (es fs : List (Det × V)) (moved : IsPermutation es fs) (distinct : IsDistinct same_det (keys_of es)) where
  -- a permutation of distinct entries is distinct
  pub still_distinct : IsDistinct same_det (keys_of fs)
  still_distinct = IsDistinct-IsPermutation same_det same_turned (keys_of es) (keys_of fs) (IsPermutation-map (λ e. e.0) es fs moved) distinct

  still_found : (q : Det) → lookup (same_det q) fs ≡ lookup (same_det q) es
  still_found q = grind (arith, moved_found es fs q moved still_distinct, moved_found fs es q (IsPermutation-sym es fs moved) distinct)

  -- a permutation of entries makes the same map
  pub moved_log : fin.from_entries {R = det_cmp} fs ≡ fin.from_entries es
  moved_log = same_log fs es still_found

  -- sorted entries have ascending determinants
  pub moved_ascend : IsSortedByKey (λ e. e.0) det_cmp fs → is_ascending (keys_of fs) ≡ true
  moved_ascend sorted = sorted_ascend (keys_of fs) (map_sorted (λ e. e.0) (λ x y. is_lt (det_cmp x y)) fs sorted) still_distinct
