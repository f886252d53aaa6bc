-- Sets of determinants, and the set of a list: lemmas for implementors of `Stable`.
use Rattle.std.proofs.Common.{arith, ◌≡◌, ◌∙◌, true, ◌||◌, List, [], ◌∷◌, ◌++◌, map, length, Option, is_some, sym, ap, subst}
use Rattle.std.proofs.lemmas.Simd.{map-map}
use Rattle.std.specs.List.{list_any, IsDistinct}
use Rattle.std.specs.Map.{keys_of}
use Rattle.std.specs.FinMap as fin
use Rattle.causal_name.specs.declared.Det.{Det}
use Rattle.causal_name.specs.Names.{det_cmp, same_det, is_ascending}
use Rattle.std.proofs.lemmas.List.{length-map, map-id}
use Rattle.causal_log.specs.Stores.{DetSet, set_of, with_det, set_has, count_in, dets_in}
use Rattle.causal_name.proofs.Lemmas.DetOrder.{dets_total, exact_dets, det_ties, same_is}
use Rattle.std.proofs.lemmas.List.Sorted.{IsPermutation-map}
use Rattle.std.proofs.lemmas.List.Folds.{list_any-append}
use Rattle.std.proofs.lemmas.Map.Keys.{IsDistinct-IsPermutation}
use Rattle.std.proofs.lemmas.Map.Made.{is_some-lookup}
use Rattle.std.specs.List.Sorted.{IsPermutation, IsSorted}
use Rattle.causal_log.proofs.EntryLemmas.{get_log, own_entries, sorted_ascend, moved_log}
use Rattle.causal_log.proofs.PlaceLemmas.{same_length}
use Rattle.causal_log.proofs.Lemmas.Searches.{same_turned}
use Rattle.std.specs.Option.{option_map}
use Rattle.causal_log.specs.declared.known.Known.{Known}
use Rattle.causal_log.specs.Logs.{log_of}

abbrev paired : List Det → List (Det × Unit {0})
paired ds = map (λ d. (d, tt)) ds

keys_paired : (ds : List Det) → keys_of (paired ds) ≡ ds
keys_paired ds = map-map (λ e. e.0) (λ d. (d, tt)) ds ∙ map-id ds

-- a determinant is a member if and only if it is in the list of members
pub listed : (s : DetSet) (d : Det) → set_has s d ≡ list_any (same_det d) (dets_in s)
listed s d = grind (arith, fin.contains_key-keys, det_ties)

-- after one is added, the members are that one and those before
pub stored : (s : DetSet) (d other : Det) → set_has (with_det s d) other ≡ (same_det other d || set_has s other)
stored s d other = grind (arith, fin.get-insert, dets_total, det_ties)

-- sets with the same members are equal
same_set : (s t : DetSet) → ((q : Det) → set_has s q ≡ set_has t q) → s ≡ t
same_set s t h = fin.same_map dets_total exact_dets s t (λ q. grind (arith, h q))

-- adding a member changes nothing
pub with_member : (s : DetSet) (d : Det) → set_has s d ≡ true → with_det s d ≡ s
with_member s d member = same_set (with_det s d) s (λ q. grind (arith, stored s d q, same_is q d))

-- a store with no members is empty
pub none_stored : (s : DetSet) → count_in s ≡ 0 → s ≡ fin.empty
none_stored s h = fin.empty_of_len s h

-- a determinant is a member of a list's set if and only if it is in the list
pub has_list : (ds : List Det) (d : Det) → set_has (set_of ds) d ≡ list_any (same_det d) ds
has_list ds d = ap is_some (get_log (paired ds) d) ∙ is_some-lookup (same_det d) (paired ds) ∙ ap (list_any (same_det d)) (keys_paired ds)

each_once : (ds : List Det) → IsDistinct same_det ds → IsDistinct same_det (keys_of (paired ds))
each_once ds distinct = subst (IsDistinct same_det) (sym (keys_paired ds)) distinct

-- a distinct list has as many elements as its set
pub count_list : (ds : List Det) → IsDistinct same_det ds → count_in (set_of ds) ≡ length ds
count_list ds distinct = fin.len-entries (set_of ds) ∙ sym (same_length (paired ds) (each_once ds distinct)) ∙ length-map ds (λ d. (d, tt))

-- a distinct list, once sorted, is the list of its set's members
pub sorted_list : (ds fs : List Det) → IsPermutation ds fs → IsDistinct same_det ds → IsSorted det_cmp fs → fs ≡ dets_in (set_of ds)
sorted_list ds fs moved distinct sorted =
    let ups = sorted_ascend fs sorted (IsDistinct-IsPermutation same_det same_turned ds fs moved distinct) in
    sym (keys_paired fs)
    ∙ ap (λ es. keys_of es) (sym (own_entries (paired fs) (ap is_ascending (keys_paired fs) ∙ ups)))
    ∙ ap (λ (s : DetSet). dets_in s) (moved_log (paired ds) (paired fs) (IsPermutation-map (λ d. (d, tt)) ds fs moved) (each_once ds distinct))

-- appending a determinant to a list adds it to the list's set
pub set_push : (ds : List Det) (d : Det) → set_of (ds ++ d ∷ []) ≡ with_det (set_of ds) d
set_push ds d = grind (arith, same_set, has_list, list_any-append, stored)

-- a mapped option has a value if and only if the option has one
pub some_of : {X Y : Type 0} (f : X → Y) (o : Option X) → is_some (option_map f o) ≡ is_some o
some_of f o = grind arith

-- a log has a determinant if and only if the set of its determinants has it
pub has_there : (es : List (Det × Known)) (d : Det) → is_some (fin.get (log_of es) d) ≡ set_has (set_of (keys_of es)) d
has_there es d = ap is_some (get_log es d) ∙ is_some-lookup (same_det d) es ∙ sym (has_list (keys_of es) d)
