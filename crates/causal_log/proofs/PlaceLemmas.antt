-- Entries in any order, the map that they make, and the least determinant of a slot.
use Rattle.std.proofs.Common.{ℕ, zero, suc, ◌≡◌, ◌∙◌, Bool, true, false, cond, List, [], ◌∷◌, filter, find, count_by, Option, Some, None, is_some, option_map, unwrap_or, slice_get, length, true≢false, refl, sym, ap, subst, arith}
use Rattle.std.proofs.lemmas.Bool.Decides.{nat_tests}
use Rattle.std.proofs.lemmas.List.Sorted.{IsPermutation-refl, IsPermutation-cons, IsPermutation-swap, IsPermutation-trans, IsPermutation-map, length_permutation, sum_by-IsPermutation}
use Rattle.std.proofs.lemmas.List.Sums.{length-filter}
use Rattle.std.proofs.lemmas.Map.Keys.{any_passes_from_place}
use Rattle.std.proofs.lemmas.Map.Made.{is_some-lookup}
use Rattle.std.proofs.lemmas.Option.{slice_get-map, slice_get_read}
use Rattle.std.specs.List.{AllByRecursion, IsDistinct, list_any}
use Rattle.std.specs.List.Sorted.{IsPermutation}
use Rattle.std.specs.Map.{lookup, keys_of}
use Rattle.std.specs.FinMap as fin
use Rattle.std.specs.FinMap.Entries.{put, by_order}
use Rattle.std.specs.Ordering.{is_eq}
use Rattle.std.specs.declared.cmp.Ordering.{Ordering}
use Rattle.std.specs.declared.cmp.Ordering.TheVariants.{Less, Equal, Greater}
use Rattle.std.proofs.lemmas.Bool.{and_parts}
use Rattle.causal_name.specs.declared.Det.{Det}
use Rattle.causal_name.specs.Names.{det_cmp, same_det, is_before, is_ascending}
use Rattle.causal_name.proofs.Lemmas.DetOrder.{dets_total, exact_dets, same_is, same_itself}
use Rattle.causal_log.specs.declared.known.Known.{Known}
use Rattle.causal_log.specs.Knowledge.{unknown, union_with}
use Rattle.causal_log.specs.Logs.{LogMap, after_learn, after_learn_all, known_of}
use Rattle.causal_log.specs.Inside.Ranks.{has_rank, IsLeastOfSlot}
use Rattle.causal_log.proofs.EntryLemmas.{find_lookup, get_log, same_log, keys_distinct, nothing, not_itself, not_after}
use Rattle.causal_log.proofs.Lemmas.Ascents.{ascending_tail, ascending_skip, first_before, map_ascends}
use Rattle.causal_log.proofs.Lemmas.KnowledgeGrows.{get_learned}
use Rattle.causal_log.proofs.Lemmas.LogLists.{place_shown}
use Rattle.causal_log.proofs.Lemmas.Slots.{first_fits, none_fits, first_least}
use Rattle.std.proofs.lemmas.Map.Views.{Contains-from_any}
use Rattle.causal_name.specs.declared.Pid.{Pid}
use Rattle.causal_log.specs.Slots.{is_of_slot, first_of_slot}

-- a determinant of a list has an index in it
pub index_of_member : (d : Det) (ds : List Det) → list_any (same_det d) ds ≡ true → (k : ℕ) × (slice_get ds k ≡ Some d)
index_of_member d ds h = let at = Contains-from_any same_is d ds h in (at.0, slice_get_read _ _ at.0 _ refl at.1 (sym at.2))

-- the least of some determinants is the first of an ascending list of them
pub least_first : (dest : Pid) (rsn : ℕ) (dets ds : List Det) (o : Option Det) → is_ascending ds ≡ true → ((q : Det) → list_any (same_det q) dets ≡ list_any (same_det q) ds)
    → IsLeastOfSlot dest rsn dets o → o ≡ first_of_slot dest rsn ds
least_first dest rsn dets ds o ascend same is = by o is (first_of_slot dest rsn ds) refl
  where
    by : (o : Option Det) → IsLeastOfSlot dest rsn dets o → (r : Option Det) → first_of_slot dest rsn ds ≡ r → o ≡ r
    by None is None first = refl
    by None is (Some d) first = grind (arith, first_fits (is_of_slot dest rsn) ds d first, is d, same d)
    by (Some f) is None first = grind (arith, none_fits (is_of_slot dest rsn) ds f first, same f)
    by (Some f) is (Some d) first = grind (arith, first_fits (is_of_slot dest rsn) ds d first, first_least (is_of_slot dest rsn) ds d f ascend first, same f, same d, is.2 d, not_after d f)

none_later : {X : Type 0} (d : Det) (es : List (Det × X)) → AllByRecursion (λ y. same_det d y ≡ false) (keys_of es) → lookup (same_det d) es ≡ None
none_later d [] h = refl
none_later d (e ∷ es) h = grind (arith, none_later d es h.1, h.0)

-- the value of a determinant, if both pass a test
abbrev passing : {X : Type 0} → (Det × X → Bool) → Det → Option X → Option X
passing P q None = None
passing P q (Some x) = cond (P (q, x)) (Some x) None

-- a look-up in the entries that pass a test
lookup_passing : {X : Type 0} (P : Det × X → Bool) (q : Det) (es : List (Det × X)) → IsDistinct same_det (keys_of es) → lookup (same_det q) (filter P es) ≡ passing P q (lookup (same_det q) es)
unfolding IsDistinct
lookup_passing P q [] distinct = refl
lookup_passing P q (e ∷ es) distinct = grind (arith, lookup_passing P q es distinct.1, same_is q e.0, none_later e.0 es distinct.0)

module _ {X : Type 0} where
  -- the entries, sorted as in the map that they make
  abbrev pub in_order : List (Det × X) → List (Det × X)
  in_order es = fin.entries (fin.from_entries {R = det_cmp} es)

  -- a look-up in sorted entries returns what it returned before
  pub found_order : (es : List (Det × X)) (q : Det) → lookup (same_det q) (in_order es) ≡ lookup (same_det q) es
  found_order es q = sym (find_lookup (in_order es) q) ∙ sym (fin.get-entries (fin.from_entries {R = det_cmp} es) q) ∙ get_log es q

  -- the sorted entries have the same determinants
  pub same_members : (es : List (Det × X)) (q : Det) → list_any (same_det q) (keys_of es) ≡ list_any (same_det q) (keys_of (in_order es))
  same_members es q = grind (arith, is_some-lookup (same_det q) es, found_order es q, is_some-lookup)

  put_moved : (e : Det × X) (es : List (Det × X)) → fin.find det_cmp e.0 es ≡ None → IsPermutation (e ∷ es) (put det_cmp e.0 e.1 es)
  put_moved e [] none = IsPermutation-refl (e ∷ [])
  put_moved e (f ∷ es) none = by (det_cmp e.0 f.0) none (put_moved e es)
    where
      by : (r : Ordering) → cond (is_eq r) (Some f.1) (fin.find det_cmp e.0 es) ≡ None → (fin.find det_cmp e.0 es ≡ None → IsPermutation (e ∷ es) (put det_cmp e.0 e.1 es))
          → IsPermutation (e ∷ f ∷ es) (by_order r (e ∷ f ∷ es) ((f.0, e.1) ∷ es) (f ∷ put det_cmp e.0 e.1 es))
      by Less none later = IsPermutation-refl (e ∷ f ∷ es)
      by Equal none later = absurd (true≢false (ap is_some none))
      by Greater none later =
          IsPermutation-trans (e ∷ f ∷ es) (f ∷ e ∷ es) (f ∷ put det_cmp e.0 e.1 es)
          (IsPermutation-swap (e ∷ f ∷ es) (f ∷ e ∷ es) 0 1 (omega arith) (omega arith) refl)
          (IsPermutation-cons f (e ∷ es) (put det_cmp e.0 e.1 es) (later none))

  -- distinct entries and their sorted list are permutations of each other
  moved_order : (es : List (Det × X)) → IsDistinct same_det (keys_of es) → IsPermutation es (in_order es)
  unfolding IsDistinct
  moved_order [] distinct = subst (IsPermutation []) (sym nothing) (IsPermutation-refl [])
  moved_order (e ∷ es) distinct =
      IsPermutation-trans (e ∷ es) (e ∷ in_order es) (in_order (e ∷ es)) (IsPermutation-cons e es (in_order es) (moved_order es distinct.1))
      (subst (IsPermutation (e ∷ in_order es)) (sym (fin.entries-insert dets_total (fin.from_entries {R = det_cmp} es) e.0 e.1))
      (put_moved e (in_order es) (find_lookup (in_order es) e.0 ∙ found_order es e.0 ∙ none_later e.0 es distinct.0)))

  module _ (es : List (Det × X)) (distinct : IsDistinct same_det (keys_of es)) where
    -- the sorted list has as many entries
    pub same_length : length es ≡ length (in_order es)
    same_length = sym (length_permutation es (in_order es) (moved_order es distinct))

    -- as many sorted entries pass a test of their values
    pub same_count : (P : X → Bool) → length (filter (λ e. P e.1) es) ≡ length (filter (λ e. P e.1) (in_order es))
    same_count P = grind (arith, length-filter, sum_by-IsPermutation, moved_order)

    -- the sorted entries that pass a test of determinant and value make the same map
    pub same_passing : (P : Det × X → Bool) → fin.from_entries {R = det_cmp} (filter P es) ≡ fin.from_entries (filter P (in_order es))
    same_passing P = same_log (filter P es) (filter P (in_order es)) (λ q.
        grind (arith, lookup_passing P q es distinct, lookup_passing P q (in_order es) (keys_distinct (fin.from_entries es)), found_order es q))

    -- as many determinants pass a test
    pub same_counted : (P : Det → Bool) → count_by P (keys_of es) ≡ count_by P (keys_of (in_order es))
    same_counted P = grind (arith, sum_by-IsPermutation, IsPermutation-map, moved_order)

-- what is known of a determinant once this is learned of it
abbrev heard_at : Option Known → Option Known → Option Known
heard_at None o = o
heard_at (Some known) o = Some (union_with (unwrap_or o unknown) known)

get_all : (es : List (Det × Known)) (log : LogMap) (q : Det) → IsDistinct same_det (keys_of es) → fin.get (after_learn_all es log) q ≡ heard_at (lookup (same_det q) es) (fin.get log q)
unfolding IsDistinct
get_all [] log q distinct = refl
get_all (e ∷ es) log q distinct =
    get_all es (after_learn log e.0 e.1) q distinct.1 ∙ ap (heard_at (lookup (same_det q) es)) (get_learned log e.0 e.1 q) ∙ by (same_det q e.0) refl
  where
    by : (b : Bool) → same_det q e.0 ≡ b
        → heard_at (lookup (same_det q) es) (cond b (Some (union_with (known_of log e.0) e.1)) (fin.get log q)) ≡ heard_at (cond b (Some e.1) (lookup (same_det q) es)) (fin.get log q)
    by true same =
        let is = same_is q e.0 same in
        ap (λ o. heard_at o (Some (union_with (known_of log e.0) e.1))) (ap (λ d. lookup (same_det d) es) is ∙ none_later e.0 es distinct.0)
        ∙ ap (λ d. Some (union_with (known_of log d) e.1)) (sym is)
    by false apart = refl

-- the order in which entries are learned does not matter
pub same_learned : (es : List (Det × Known)) (log : LogMap) → IsDistinct same_det (keys_of es) → after_learn_all es log ≡ after_learn_all (in_order es) log
same_learned es log distinct = fin.same_map dets_total exact_dets _ _ (λ q. grind (arith, get_all, found_order, keys_distinct (fin.from_entries es)))

none_before : (d : Det) (ds : List Det) → is_ascending (d ∷ ds) ≡ true → length (filter (λ x. is_before x d) ds) ≡ 0
none_before d [] h = refl
none_before d (e ∷ ds) h = grind (arith, none_before d ds, and_parts, not_after, ascending_skip)

-- in an ascending list, as many elements come before one as its index
rank_at : (ds : List Det) (i : ℕ) (d : Det) → is_ascending ds ≡ true → slice_get ds i ≡ Some d → length (filter (λ x. is_before x d) ds) ≡ i
rank_at [] i d h at = absurd (true≢false (sym (ap is_some at)))
rank_at (e ∷ ds) zero d h at = grind (arith, not_itself, none_before)
rank_at (e ∷ ds) (suc i) d h at = grind (arith, first_before e ds d h (any_passes_from_place (same_det d) ds i d at (same_itself d)), rank_at ds i d (ascending_tail e ds h) at)

-- a determinant, if there is one, with what is known of it
abbrev pub with_known : LogMap → Option Det → Option (Det × Known)
with_known log None = None
with_known log (Some d) = option_map (λ known. (d, known)) (fin.get log d)

-- as many determinants pass a test as entries whose determinants pass it
count_keys : (P : Det → Bool) (es : List (Det × Known)) → length (filter P (keys_of es)) ≡ length (filter (λ e. P e.0) es)
count_keys P [] = refl
count_keys P (e ∷ es) = grind (arith, count_keys P es)

module _ (es : List (Det × Known)) (distinct : IsDistinct same_det (keys_of es)) where
  abbrev keys : List Det
  keys = keys_of (in_order es)

  rank_order : (i : ℕ) (d : Det) → slice_get keys i ≡ Some d → length (filter (λ x. is_before x.0 d) es) ≡ i
  rank_order i d at =
      grind (
        arith,
        count_keys (λ x. is_before x d) es,
        length-filter (λ x. is_before x d) (keys_of es),
        same_counted es distinct (λ x. is_before x d),
        length-filter (λ x. is_before x d) keys,
        rank_at keys i d (map_ascends (fin.from_entries {R = det_cmp} es)) at,
      )

  -- the determinant of rank n is the one at index n of the map
  ranked_key : (n : ℕ) → find (λ d. has_rank es n d) (keys_of es) ≡ slice_get keys n
  ranked_key n = by (find (λ d. has_rank es n d) (keys_of es)) refl (slice_get keys n) refl
    where
      by : (o : Option Det) → find (λ d. has_rank es n d) (keys_of es) ≡ o → (r : Option Det) → slice_get keys n ≡ r → o ≡ r
      by None none None at = refl
      by None none (Some d) at = grind (arith, nat_tests, rank_order n d at, none_fits (λ x. has_rank es n x) (keys_of es) d none, same_members es d, any_passes_from_place (same_det d) keys n d at (same_itself d))
      by (Some d) found r at =
          let two = first_fits (λ x. has_rank es n x) (keys_of es) d found in
          let there = index_of_member d keys (sym (same_members es d) ∙ two.1) in
          grind (arith, nat_tests, two.0, there.1, rank_order there.0 d there.1)

  -- with what is known of it, the determinant of rank n is the entry at index n
  pub ranked_entry : (n : ℕ) (o : Option Det) → o ≡ find (λ d. has_rank es n d) (keys_of es) → with_known (fin.from_entries es) o ≡ slice_get (in_order es) n
  ranked_entry n o is = ap (with_known (fin.from_entries es)) (is ∙ ranked_key n ∙ slice_get-map (λ e. e.0) (in_order es) n) ∙ by (slice_get (in_order es) n) refl
    where
      by : (o : Option (Det × Known)) → slice_get (in_order es) n ≡ o → with_known (fin.from_entries es) (option_map (λ e. e.0) o) ≡ o
      by None at = refl
      by (Some e) at = ap (option_map (λ known. (e.0, known))) (place_shown (fin.from_entries es) n e.0 e.1 at)
