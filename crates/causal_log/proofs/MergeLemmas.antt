-- Ascending items are recognised as those that messages carry, stay so as determinants are learned, and are so again
-- once determinants that have changed are looked up.
use Rattle.std.proofs.Common.{Bool, inl, inr, ℕ, zero, suc, ◌+◌, ◌-◌, ◌<◌, length, take, drop, get_or, slice_get, IfSome, ◌≡◌, ◌∙◌, ◌≤◌, ◌||◌, true, false, nat_cmp, List, [], ◌∷◌, ◌++◌, map, filter, Option, Some, None, is_some, unwrap_or, cond, true≢false, refl, sym, ap, arith}
use Rattle.std.proofs.lemmas.Simd.{map-map}
use Rattle.std.proofs.lemmas.Bool.{and_from, and_parts, false_from_ne_true, or_cases, or_right, or_parts}
use Rattle.std.proofs.lemmas.Bool.Decides.{nat_tests}
use Rattle.std.proofs.lemmas.List.{append-nil, append_assoc, map-id, drop-drop, drop_more, get_or-drop, length-drop, length-take-le, map-append, take-append-drop, take_all, drop_all}
use Rattle.std.proofs.lemmas.Option.{slice_get-get_or, slice_get_within}
use Rattle.std.proofs.Math.Seq.{drop-append_seam, take-append_seam, take-suc}
use Rattle.std.proofs.lemmas.List.Folds.{list_any-append}
use Rattle.std.specs.List.{list_any, list_all, dedup, dedup_from}
use Rattle.std.specs.Option.{option_or}
use Rattle.std.specs.Map.{lookup, keys_of}
use Rattle.std.specs.Cmp.{nat_cmp_total}
use Rattle.std.specs.FinMap as fin
use Rattle.std.specs.FinSet as set
use Rattle.causal_name.specs.declared.Det.{Det}
use Rattle.causal_name.specs.declared.Pid.{Pid}
use Rattle.causal_name.specs.Names.{same_det, is_before, is_ascending}
use Rattle.causal_name.proofs.Lemmas.DetOrder.{dets_total, same_is, same_itself, exact_dets}
use Rattle.causal_holders.proofs.Lemmas.Sets.{len-is_subset}
use Rattle.causal_log.specs.declared.known.Known.{Known}
use Rattle.causal_log.specs.declared.batch.Item.{Item}
use Rattle.causal_log.specs.Knowledge.{unknown, union_with, is_carried, knowledge_from_item}
use Rattle.causal_log.specs.Logs.{LogMap, known_of, after_learn, after_absorb, item_of, batch_items, dets_of, names_det, after_learn_all, after_mark}
use Rattle.causal_log.specs.Inside.BatchCache.{known_of_item, item_entries, carried_knowledge, with_carried, LearnsItem, CarriesBut, CacheIsRight, CacheIsRightBut, with_knowledge}
use Rattle.causal_log.specs.Inside.Merges.{AreDisjoint, IsMergeState, are_known_to_hold}
use Rattle.causal_log.proofs.EntryLemmas.{below, find_lookup, same_log, own_entries, not_itself, not_after}
use Rattle.causal_log.proofs.KnownLemmas.{joined_nothing}
use Rattle.causal_log.proofs.TableLemmas.{lookup_missing}
use Rattle.causal_log.proofs.Lemmas.Ascents.{ascending_tail, ascending_skip, first_before, filter_ascends}
use Rattle.causal_log.proofs.Lemmas.ChosenLemmas.{chosen_ascend}
use Rattle.causal_log.proofs.Lemmas.KnowledgeGrows.{get_learned, told_keys}
use Rattle.causal_log.proofs.Lemmas.Searches.{any_map, before_apart, find_kept, kept_if, shown, same_turned}
use Rattle.causal_log.specs.declared.cached_batch.CachedBatch.{CachedBatch}
use Rattle.causal_log.proofs.Lemmas.LogLists.{get_marked}

more_holders : (one : set.FinSet nat_cmp) (other : set.FinSet nat_cmp) → ((q : ℕ) → set.contains one q ≡ true → set.contains other q ≡ true) → set.len one ≤ set.len other
more_holders one other h = len-is_subset one other (set.contains-is_subset nat_cmp_total one other h)

-- what is carried after more is learned was carried before, and what is learned alone would be carried
both_carried : (f : ℕ) (known news : Known) → is_carried f (union_with known news) ≡ true → (is_carried f known ≡ true) × (is_carried f news ≡ true)
both_carried f known news h =
    let one = more_holders known.holders (union_with known news).holders (λ q there. grind (arith, set.contains-union, nat_cmp_total)) in
    let other = more_holders news.holders (union_with known news).holders (λ q there. grind (arith, set.contains-union, nat_cmp_total)) in
    grind (arith, nat_tests)

pub keys_entries : (items : List Item) → keys_of (item_entries items) ≡ dets_of items
keys_entries items = map-map (λ e. e.0) (λ item. (item.det, known_of_item item)) items

items_back : (items : List Item) → map item_of (item_entries items) ≡ items
items_back items = map-map item_of (λ item. (item.det, known_of_item item)) items ∙ map-id items

pub dets_append : (xs ys : List Item) → dets_of (xs ++ ys) ≡ dets_of xs ++ dets_of ys
dets_append xs ys = map-append (λ item. item.det) xs ys

-- a carried determinant has no mark
pub carried_unmarked : (f : ℕ) (known : Known) → is_carried f known ≡ true → record { holders = known.holders; stable = false } ≡ known
carried_unmarked f known h = grind (arith, and_parts)

module _ (f : ℕ) where
  kept_entries : (es : List (Det × Known)) → item_entries (map item_of (filter (λ e. is_carried f e.1) es)) ≡ filter (λ e. is_carried f e.1) es
  kept_entries [] = refl
  kept_entries (e ∷ es) =
      let rest = filter (λ x. is_carried f x.1) es in
      elim (is_carried f e.1) as (λ b. is_carried f e.1 ≡ b → item_entries (map item_of (cond b (e ∷ rest) rest)) ≡ cond b (e ∷ rest) rest) [
        | true ↦ λ carries i. (e.0, carried_unmarked f e.1 carries i) ∷ kept_entries es i
        | false ↦ λ closed. kept_entries es
      ]
      refl

  found_kept : (log : LogMap) (q : Det) → lookup (same_det q) (filter (λ e. is_carried f e.1) (fin.entries log)) ≡ carried_knowledge f (fin.get log q)
  found_kept log q =
      sym (find_lookup (filter (λ e. is_carried f e.1) (fin.entries log)) q) ∙ find_kept (is_carried f) q (fin.entries log) (shown _ (fin.entries_sorted log))
      ∙ ap (kept_if (is_carried f)) (sym (fin.get-entries log q)) ∙ same_kept (fin.get log q)
    where
      same_kept : (o : Option Known) → kept_if (is_carried f) o ≡ carried_knowledge f o
      same_kept None = refl
      same_kept (Some known) = refl

  -- a look-up in the items that messages carry finds each of them, and no other
  pub found_chosen : (log : LogMap) (q : Det) → lookup (same_det q) (item_entries (batch_items f log)) ≡ carried_knowledge f (fin.get log q)
  found_chosen log q = ap (lookup (same_det q)) (kept_entries (fin.entries log)) ∙ found_kept log q

  -- ascending items with these look-ups are the items that messages carry
  pub recognized : (log : LogMap) (items : List Item) → is_ascending (dets_of items) ≡ true → ((q : Det) → lookup (same_det q) (item_entries items) ≡ carried_knowledge f (fin.get log q)) → items ≡ batch_items f log
  recognized log items ascend found =
      sym (items_back items)
      ∙ ap (map item_of)
      (sym (own_entries (item_entries items) (ap is_ascending (keys_entries items) ∙ ascend))
      ∙ ap fin.entries (same_log (item_entries items) (filter (λ e. is_carried f e.1) (fin.entries log)) (λ q. found q ∙ sym (found_kept log q)))
      ∙ own_entries (filter (λ e. is_carried f e.1) (fin.entries log)) (filter_ascends (λ e. is_carried f e.1) log))

-- two ascending lists that share one element, joined there, ascend
pub glue : (xs : List Det) (d : Det) (ys : List Det) → is_ascending (xs ++ d ∷ []) ≡ true → is_ascending (d ∷ ys) ≡ true → is_ascending (xs ++ d ∷ ys) ≡ true
glue [] d ys h k = k
glue (x ∷ []) d ys h k = and_from (is_before x d) (is_ascending (d ∷ ys)) (and_parts (is_before x d) true h).0 k
glue (x ∷ y ∷ xs) d ys h k =
    let parts = and_parts (is_before x y) (is_ascending ((y ∷ xs) ++ d ∷ [])) h in
    and_from (is_before x y) (is_ascending ((y ∷ xs) ++ d ∷ ys)) parts.0 (glue (y ∷ xs) d ys parts.1 k)

pub front : (xs : List Det) (d : Det) (ys : List Det) → is_ascending (xs ++ d ∷ ys) ≡ true → is_ascending (xs ++ d ∷ []) ≡ true
front [] d ys h = refl
front (x ∷ []) d ys h = and_from (is_before x d) true (and_parts (is_before x d) (is_ascending (d ∷ ys)) h).0 refl
front (x ∷ y ∷ xs) d ys h =
    let parts = and_parts (is_before x y) (is_ascending ((y ∷ xs) ++ d ∷ ys)) h in
    and_from (is_before x y) (is_ascending ((y ∷ xs) ++ d ∷ [])) parts.0 (front (y ∷ xs) d ys parts.1)

pub back : (xs ys : List Det) → is_ascending (xs ++ ys) ≡ true → is_ascending ys ≡ true
back [] ys h = h
back (x ∷ xs) ys h = back xs ys (ascending_tail x (xs ++ ys) h)

pub without : (xs : List Det) (d : Det) (ys : List Det) → is_ascending (xs ++ d ∷ ys) ≡ true → is_ascending (xs ++ ys) ≡ true
without [] d ys h = ascending_tail d ys h
without (x ∷ []) d ys h = ascending_skip x d ys h
without (x ∷ y ∷ xs) d ys h =
    let parts = and_parts (is_before x y) (is_ascending ((y ∷ xs) ++ d ∷ ys)) h in
    and_from (is_before x y) (is_ascending ((y ∷ xs) ++ ys)) parts.0 (without (y ∷ xs) d ys parts.1)

-- the last element of an ascending list can be replaced by a later one
pub raise : (xs : List Det) (d e : Det) → is_ascending (xs ++ d ∷ []) ≡ true → is_before d e ≡ true → is_ascending (xs ++ e ∷ []) ≡ true
raise xs d e h low = without xs d (e ∷ []) (glue xs d (e ∷ []) h (and_from (is_before d e) true low refl))

-- the last element of a list is in it
last_there : (xs : List Det) (d : Det) → list_any (same_det d) (xs ++ d ∷ []) ≡ true
last_there xs d = list_any-append (same_det d) xs (d ∷ []) ∙ or_right (list_any (same_det d) xs) (same_det d d || false) (ap (λ b. b || false) (same_itself d))

-- a determinant is in neither a list before it nor a list after it
pub none_front : (xs : List Det) (d : Det) → is_ascending (xs ++ d ∷ []) ≡ true → list_any (same_det d) xs ≡ false
none_front [] d h = refl
none_front (x ∷ xs) d h =
    let apart = same_turned d x ∙ before_apart x d (first_before x (xs ++ d ∷ []) d h (last_there xs d)) in
    let rest = none_front xs d (ascending_tail x (xs ++ d ∷ []) h) in
    λ i. apart i || rest i

pub none_back : (d : Det) (ys : List Det) → is_ascending (d ∷ ys) ≡ true → list_any (same_det d) ys ≡ false
none_back d ys h = false_from_ne_true (list_any (same_det d) ys) (λ there. true≢false (sym (first_before d ys d h there) ∙ not_itself d))

lookup_append : {X : Type 0} (q : Det) (es fs : List (Det × X)) → lookup (same_det q) (es ++ fs) ≡ option_or (lookup (same_det q) es) (lookup (same_det q) fs)
lookup_append q [] fs = refl
lookup_append q (e ∷ es) fs =
    elim (same_det q e.0) as (λ b. cond b (Some e.1) (lookup (same_det q) (es ++ fs)) ≡ option_or (cond b (Some e.1) (lookup (same_det q) es)) (lookup (same_det q) fs)) [
      | true ↦ refl
      | false ↦ lookup_append q es fs
    ]

pub found_append : (q : Det) (xs ys : List Item) → lookup (same_det q) (item_entries (xs ++ ys)) ≡ option_or (lookup (same_det q) (item_entries xs)) (lookup (same_det q) (item_entries ys))
found_append q xs ys = ap (lookup (same_det q)) (map-append (λ item. (item.det, known_of_item item)) xs ys) ∙ lookup_append q (item_entries xs) (item_entries ys)

pub none_found : (q : Det) (xs : List Item) → list_any (same_det q) (dets_of xs) ≡ false → lookup (same_det q) (item_entries xs) ≡ None
none_found q xs h = lookup_missing (item_entries xs) q (ap (list_any (same_det q)) (keys_entries xs) ∙ h)

-- the items that messages carry of a log are `out` and `rest`, and `out` comes before a determinant: the items after
-- that determinant is learned
module _ (f : ℕ) (log : LogMap) (det : Det) (news : Known) (out rest : List Item) (is : out ++ rest ≡ batch_items f log) (before : is_ascending (dets_of out ++ det ∷ []) ≡ true) where
  abbrev pub now_known : Known
  now_known = union_with (known_of log det) news

  not_out : lookup (same_det det) (item_entries out) ≡ None
  not_out = none_found det out (none_front (dets_of out) det before)

  found : (q : Det) → option_or (lookup (same_det q) (item_entries out)) (lookup (same_det q) (item_entries rest)) ≡ carried_knowledge f (fin.get log q)
  found q = sym (found_append q out rest) ∙ ap (λ xs. lookup (same_det q) (item_entries xs)) is ∙ found_chosen f log q

  -- if the determinant is carried, it is in the rest
  pub in_rest : lookup (same_det det) (item_entries rest) ≡ carried_knowledge f (fin.get log det)
  in_rest = sym (ap (λ o. option_or o (lookup (same_det det) (item_entries rest))) not_out) ∙ found det

  -- items that differ only at the determinant, and there have what is carried of it afterwards
  pub heard_now : (later : List Item) → is_ascending (dets_of (out ++ later)) ≡ true
      → lookup (same_det det) (item_entries later) ≡ carried_knowledge f (Some now_known)
      → ((q : Det) → same_det q det ≡ false → lookup (same_det q) (item_entries later) ≡ lookup (same_det q) (item_entries rest))
      → out ++ later ≡ batch_items f (after_learn log det news)
  heard_now later ascend here elsewhere =
      recognized f (after_learn log det news) (out ++ later) ascend (λ q. found_append q out later ∙ by q (same_det q det) refl ∙ ap (carried_knowledge f) (sym (get_learned log det news q)))
    where
      by : (q : Det) (b : Bool) → same_det q det ≡ b
          → option_or (lookup (same_det q) (item_entries out)) (lookup (same_det q) (item_entries later)) ≡ carried_knowledge f (cond b (Some now_known) (fin.get log q))
      by q true same =
          ap (λ d. option_or (lookup (same_det d) (item_entries out)) (lookup (same_det d) (item_entries later))) (same_is q det same)
          ∙ ap (λ o. option_or o (lookup (same_det det) (item_entries later))) not_out ∙ here
      by q false apart = ap (option_or (lookup (same_det q) (item_entries out))) (elsewhere q apart) ∙ found q

  -- the items with this knowledge of the determinant, and other items after it
  pub become : (known : Known) (later : List Item) → now_known ≡ known → is_ascending (dets_of out ++ det ∷ dets_of later) ≡ true → lookup (same_det det) (item_entries later) ≡ None
      → ((q : Det) → same_det q det ≡ false → lookup (same_det q) (item_entries later) ≡ lookup (same_det q) (item_entries rest))
      → with_carried f det known out ++ later ≡ batch_items f (after_learn log det news)
  become known later now ascend none elsewhere = by (is_carried f known) refl
    where
      item : Item
      item = record { det = det; holders = known.holders }

      carried_now : (b : Bool) → is_carried f known ≡ b → carried_knowledge f (Some now_known) ≡ cond b (Some known) None
      carried_now b is = ap (λ k. carried_knowledge f (Some k)) now ∙ ap (λ c. cond c (Some known) None) is

      by : (b : Bool) → is_carried f known ≡ b → cond b (out ++ item ∷ []) out ++ later ≡ batch_items f (after_learn log det news)
      by true carries =
          append_assoc out (item ∷ []) later
          ∙ heard_now (item ∷ later) (ap is_ascending (dets_append out (item ∷ later)) ∙ ascend)
          (ap (λ c. cond c (Some (known_of_item item)) (lookup (same_det det) (item_entries later))) (same_itself det) ∙ ap Some (carried_unmarked f known carries) ∙ sym (carried_now true carries))
          (λ q apart. ap (λ c. cond c (Some (known_of_item item)) (lookup (same_det q) (item_entries later))) apart ∙ elsewhere q apart)
      by false closed =
          heard_now later (ap is_ascending (dets_append out later) ∙ without (dets_of out) det (dets_of later) ascend) (none ∙ sym (carried_now false closed)) elsewhere

-- one more item that comes before a determinant is copied
pub passed_on : (out : List Item) (x : Item) (rest : List Item) (det : Det) → is_ascending (dets_of (out ++ x ∷ rest)) ≡ true → is_before x.det det ≡ true → is_ascending (dets_of (out ++ x ∷ []) ++ det ∷ []) ≡ true
passed_on out x rest det ascend low = grind (arith, dets_append, append_assoc, glue, front, and_from)

-- the items from one index to another, and the rest
pub part_and_rest : (kept : List Item) (from next : ℕ) → from ≤ next → take (next - from) (drop from kept) ++ drop next kept ≡ drop from kept
part_and_rest kept from next up = grind (arith, drop-drop (next - from) from kept, take-append-drop (next - from) (drop from kept))

-- several items before a determinant are copied, if the last of them comes before it
pub part_passed : (out kept : List Item) (from next : ℕ) (det : Det) → from ≤ next → next ≤ length kept → is_ascending (dets_of (out ++ drop from kept)) ≡ true
    → is_ascending (dets_of out ++ det ∷ []) ≡ true → (from < next → IfSome (slice_get kept (next - 1)) (λ item. is_before item.det det ≡ true))
    → is_ascending (dets_of (out ++ take (next - from) (drop from kept)) ++ det ∷ []) ≡ true
part_passed out kept from next det up within ascend before last = by (next - from) refl
  where
    by : (n : ℕ) → next - from ≡ n → is_ascending (dets_of (out ++ take (next - from) (drop from kept)) ++ det ∷ []) ≡ true
    by zero e = ap (λ n. is_ascending (dets_of (out ++ take n (drop from kept)) ++ det ∷ [])) e ∙ ap (λ xs. is_ascending (dets_of xs ++ det ∷ [])) (append-nil out) ∙ before
    by (suc m) e =
        let rest = drop from kept in
        let any : Item = record { det = det; holders = set.empty } in
        let x = get_or rest m any in
        let inside : m < length rest = omega (arith, e, within, length-drop from kept) in
        let place : next - 1 ≡ from + m = omega (arith, e) in
        let low : is_before x.det det ≡ true = grind (arith, last, slice_get-get_or kept (next - 1) any, get_or-drop from kept m any) in
        grind (arith, e, take-suc rest m any inside, passed_on (out ++ take m rest) x (drop (m + 1) rest) det, take-append-drop m rest, drop_more rest m any inside, append_assoc)

-- if the next item is of the learned determinant
module _ (f : ℕ) (log : LogMap) (det : Det) (news : Known) (out : List Item) (item : Item) (rest : List Item) (is : out ++ item ∷ rest ≡ batch_items f log) (before : is_ascending (dets_of out ++ det ∷ []) ≡ true) (here : item.det ≡ det) where
  ascend : is_ascending (dets_of out ++ item.det ∷ dets_of rest) ≡ true
  ascend = sym (ap is_ascending (dets_append out (item ∷ rest))) ∙ ap (λ xs. is_ascending (dets_of xs)) is ∙ chosen_ascend f log

  known_now : known_of log det ≡ known_of_item item
  known_now = grind (arith, in_rest f log det news out (item ∷ rest) is before, here, same_itself det)

  not_later : lookup (same_det det) (item_entries rest) ≡ None
  not_later = none_found det rest (none_back det (dets_of rest) (ap (λ d. is_ascending (d ∷ dets_of rest)) (sym here) ∙ back (dets_of out) (item.det ∷ dets_of rest) ascend))

  -- the item is replaced by what is known afterwards, if that is still carried
  pub met : with_carried f det (union_with (known_of_item item) news) out ++ rest ≡ batch_items f (after_learn log det news)
  met =
      become f log det news out (item ∷ rest) is before (union_with (known_of_item item) news) rest (ap (λ k. union_with k news) known_now)
      (ap (λ d. is_ascending (dets_of out ++ d ∷ dets_of rest)) (sym here) ∙ ascend) not_later
      (λ q apart. sym (ap (λ b. cond b (Some (known_of_item item)) (lookup (same_det q) (item_entries rest))) (ap (same_det q) here ∙ apart)))

-- a determinant that is logged and carried is found
not_missed : (f : ℕ) (o : Option Known) → is_some o ≡ true → is_carried f (unwrap_or o unknown) ≡ true → carried_knowledge f o ≡ None → ⊥
not_missed f None there carries none = true≢false (sym there)
not_missed f (Some known) there carries none = true≢false (ap is_some (sym (ap (λ b. cond b (Some known) None) carries) ∙ none))

unknown_at : (o : Option Known) → is_some o ≡ false → unwrap_or o unknown ≡ unknown
unknown_at None new = refl
unknown_at (Some known) new = absurd (true≢false new)

-- if no item is of the determinant
module _ (f : ℕ) (log : LogMap) (det : Det) (news : Known) (out rest : List Item) (is : out ++ rest ≡ batch_items f log) (before : is_ascending (dets_of out ++ det ∷ []) ≡ true) (after : is_ascending (det ∷ dets_of rest) ≡ true) where
  none_there : lookup (same_det det) (item_entries rest) ≡ None
  none_there = none_found det rest (none_back det (dets_of rest) after)

  becomes : (known : Known) → union_with (known_of log det) news ≡ known → with_carried f det known out ++ rest ≡ batch_items f (after_learn log det news)
  becomes known now = become f log det news out rest is before known rest now (glue (dets_of out) det (dets_of rest) before after) none_there (λ q apart. refl)

  stays : is_carried f (union_with (known_of log det) news) ≡ false → out ++ rest ≡ batch_items f (after_learn log det news)
  stays never =
      let known = union_with (known_of log det) news in
      sym (ap (λ b. cond b (out ++ record { det = det; holders = known.holders } ∷ []) out ++ rest) never) ∙ becomes known refl

  -- it is not added if what is learned of it alone would not be carried
  pub still_out : is_carried f news ≡ false → out ++ rest ≡ batch_items f (after_learn log det news)
  still_out never = stays (false_from_ne_true (is_carried f (union_with (known_of log det) news)) (λ carries. true≢false (sym (both_carried f (known_of log det) news carries).1 ∙ never)))

  -- it is not added if it is logged, whatever is learned of it
  pub logged_out : is_some (fin.get log det) ≡ true → out ++ rest ≡ batch_items f (after_learn log det news)
  logged_out there =
      stays (false_from_ne_true (is_carried f (union_with (known_of log det) news)) (λ carries.
      not_missed f (fin.get log det) there (both_carried f (known_of log det) news carries).0 (sym (in_rest f log det news out rest is before) ∙ none_there)))

  -- it is added if it is not logged
  pub comes_in : is_some (fin.get log det) ≡ false → with_carried f det (union_with unknown news) out ++ rest ≡ batch_items f (after_learn log det news)
  comes_in new = becomes (union_with unknown news) (ap (λ k. union_with k news) (unknown_at (fin.get log det) new))

  -- so it is added unless it is logged
  pub new_pushed : (logged : Bool) → is_some (fin.get log det) ≡ logged → cond logged out (with_carried f det news out) ++ rest ≡ batch_items f (after_learn log det news)
  new_pushed true there = logged_out there
  new_pushed false new = ap (λ k. with_carried f det k out ++ rest) (sym (joined_nothing news)) ∙ comes_in new

-- learning of determinants that messages do not carry, from items that would not be carried, changes nothing
pub apart_carried : (f : ℕ) (from me : Pid) (kept items : List Item) (log : LogMap) → ((item : Item) → is_carried f (knowledge_from_item from me item).1 ≡ false) → AreDisjoint items kept → kept ≡ batch_items f log → kept ≡ batch_items f (after_absorb items from me log)
apart_carried f from me kept [] log never apart is = is
apart_carried f from me kept (x ∷ xs) log never apart is =
    let none : lookup (same_det x.det) (item_entries kept) ≡ None = none_found x.det kept (apart x.det (grind (arith, same_itself x.det))) in
    apart_carried f from me kept xs (after_learn log x.det (knowledge_from_item from me x).1) never
    (λ d there. apart d (or_right (same_det d x.det) (list_any (same_det d) (dets_of xs)) there))
    (heard_now f log x.det (knowledge_from_item from me x).1 [] kept is refl kept (grind (arith, chosen_ascend f log)) (grind (arith, both_carried f (known_of log x.det) (knowledge_from_item from me x).1, never x)) (λ q other. refl))

-- the items from an index on begin with the item at that index
pub drop_got : (xs : List Item) (i : ℕ) (x : Item) → slice_get xs i ≡ Some x → drop i xs ≡ x ∷ drop (i + 1) xs
drop_got [] i x h = absurd (true≢false (sym (ap is_some h)))
drop_got (y ∷ xs) zero x h = ap (λ o. unwrap_or o y ∷ xs) h
drop_got (y ∷ xs) (suc i) x h = grind (arith, drop_got xs i x h)

-- if no item before the next one, nor the next one, is of a determinant, the next one comes after it
pub next_after : (kept : List Item) (place : ℕ) (det : Det) → is_ascending (dets_of (drop place kept)) ≡ true → IfSome (slice_get kept place) (λ item. is_before item.det det ≡ false)
    → IfSome (slice_get kept place) (λ item. same_det item.det det ≡ false) → is_ascending (det ∷ dets_of (drop place kept)) ≡ true
next_after [] place det up low apart = grind (arith, drop_all {X = Item} place [])
next_after (x ∷ xs) zero det up low apart = grind (arith, and_from, below, same_turned)
next_after (x ∷ xs) (suc n) det up low apart = next_after xs n det up low apart

-- the copied items come before each determinant after this one
pub before_later : (f : ℕ) (det : Det) (known : Known) (out : List Item) → is_ascending (dets_of out ++ det ∷ []) ≡ true → (d : Det) → is_before det d ≡ true → is_ascending (dets_of (with_carried f det known out) ++ d ∷ []) ≡ true
before_later f det known out before d low = grind (arith, dets_append, append_assoc, glue, and_from, raise)

module _ (f : ℕ) (items : List Item) (from me : Pid) (source : LogMap) where
  -- after the last item, the copied items and the rest are what messages carry
  pub merged_all : (out kept : List Item) → IsMergeState f items [] from me source out kept → out ++ kept ≡ batch_items f (after_absorb items from me source)
  merged_all out kept h = h.carries ∙ ap (batch_items f) h.all

  -- one more item is merged, once the items before it are copied
  pub merged_next : (x : Item) (rest out kept passed next later after : List Item) → is_ascending (dets_of (x ∷ rest)) ≡ true → passed ++ next ≡ out ++ kept
      → ((log : LogMap) → is_some (fin.get log x.det) ≡ is_some (fin.get source x.det) → LearnsItem f x.det (knowledge_from_item from me x).1 log (passed ++ next) (later ++ after))
      → ((d : Det) → is_before x.det d ≡ true → is_ascending (dets_of later ++ d ∷ []) ≡ true)
      → IsMergeState f items (x ∷ rest) from me source out kept → IsMergeState f items rest from me source later after
  merged_next x rest out kept passed next later after ascend moved hears before h = record {
    log = after_learn h.log x.det (knowledge_from_item from me x).1;
    carries = hears h.log (grind (arith, h.same x.det, same_itself x.det)) (moved ∙ h.carries);
    all = h.all;
    same = λ q there.
        let news = (knowledge_from_item from me x).1 in
        let here = any_map (λ other. other.det) (same_det q) (λ other. same_det q other.det) (λ other. refl) rest ∙ there in
        let apart = same_turned q x.det ∙ before_apart x.det q (first_before x.det (dets_of rest) q ascend here) in
        get_learned h.log x.det news q ∙ ap (λ b. cond b (Some (union_with (known_of h.log x.det) news)) (fin.get h.log q)) apart
        ∙ h.same q (or_right (same_det q x.det) (list_any (λ other. same_det q other.det) rest) there);
    before = λ y ys e. before y.det (and_parts (is_before x.det y.det) (is_ascending (y.det ∷ dets_of ys)) (ap (λ xs. is_ascending (dets_of (x ∷ xs))) (sym e) ∙ ascend)).0;
  }

-- the last of the items that messages carry ascend
pub rest_ascends : (f : ℕ) (log : LogMap) (out rest : List Item) → out ++ rest ≡ batch_items f log → is_ascending (dets_of rest) ≡ true
rest_ascends f log out rest is = back (dets_of out) (dets_of rest) (sym (ap is_ascending (dets_append out rest)) ∙ ap (λ xs. is_ascending (dets_of xs)) is ∙ chosen_ascend f log)

-- the rest of a list, as a slice
pub cut_rest : (xs : List Item) (n : ℕ) → take (length xs - n) (drop n xs) ≡ drop n xs
cut_rest xs n = let len = length-drop n xs in take_all (length xs - n) (drop n xs) (omega (arith, len))

-- no element of an ascending list comes before its first
not_sooner : (x : Det) (xs : List Det) (d : Det) → is_ascending (x ∷ xs) ≡ true → list_any (same_det d) (x ∷ xs) ≡ true → is_before d x ≡ false
not_sooner x xs d h there = elim (or_cases (same_det d x) (list_any (same_det d) xs) there) [ inl is ↦ ap (λ y. is_before y x) (same_is d x is) ∙ not_itself x | inr at ↦ not_after x d (first_before x xs d h at) ]

-- all elements before the last of an ascending list come before it
ends_before : (xs : List Det) (e d : Det) → is_ascending (xs ++ e ∷ []) ≡ true → list_any (same_det d) xs ≡ true → is_before d e ≡ true
ends_before [] e d h there = absurd (true≢false (sym there))
ends_before (x ∷ xs) e d h there =
    elim (or_cases (same_det d x) (list_any (same_det d) xs) there) [
      | inl is ↦ ap (λ y. is_before y e) (same_is d x is) ∙ first_before x (xs ++ e ∷ []) e h (last_there xs e)
      | inr at ↦ ends_before xs e d (ascending_tail x (xs ++ e ∷ []) h) at
    ]

-- no element of an ascending list comes after its last
none_after_last : (xs : List Det) (e d : Det) → is_ascending (xs ++ e ∷ []) ≡ true → list_any (same_det d) (xs ++ e ∷ []) ≡ true → is_before e d ≡ false
none_after_last xs e d h there = grind (arith, list_any-append (same_det d) xs (e ∷ []), ends_before xs e d h, not_after d e, not_itself e, same_is d e)

-- the items from an index on ascend
pub drop_ascends : (xs : List Item) (n : ℕ) → is_ascending (dets_of xs) ≡ true → is_ascending (dets_of (drop n xs)) ≡ true
drop_ascends xs n h = grind (arith, back, dets_append (take n xs) (drop n xs), take-append-drop n xs)

-- the last item of a list ends it
ends_with : (xs : List Item) (x : Item) → slice_get xs (length xs - 1) ≡ Some x → dets_of (take (length xs - 1) xs) ++ x.det ∷ [] ≡ dets_of xs
ends_with xs x there = grind (arith, slice_get_within xs (length xs - 1) x there, drop_got xs (length xs - 1) x there, drop_all, take-append-drop (length xs - 1) xs, dets_append (take (length xs - 1) xs) (x ∷ []))

-- items between two neighbours of a list are none of that list
pub apart_between : (items kept : List Item) (first last : Item) (place : ℕ) → is_ascending (dets_of items) ≡ true → slice_get items 0 ≡ Some first → slice_get items (length items - 1) ≡ Some last
    → is_ascending (dets_of (take place kept) ++ first.det ∷ []) ≡ true → is_ascending (last.det ∷ dets_of (drop place kept)) ≡ true → AreDisjoint items kept
apart_between items kept first last place ascend begins ends before after d there =
    let sooner : is_before d first.det ≡ false = not_sooner first.det (dets_of (drop 1 items)) d (grind (arith, drop_got items 0 first begins)) (grind (arith, drop_got items 0 first begins)) in
    let later : is_before last.det d ≡ false = none_after_last (dets_of (take (length items - 1) items)) last.det d (grind (arith, ends_with items last ends)) (grind (arith, ends_with items last ends)) in
    grind (arith, take-append-drop place kept, dets_append (take place kept) (drop place kept), list_any-append (same_det d) (dets_of (take place kept)) (dets_of (drop place kept)), sooner, later, ends_before (dets_of (take place kept)) first.det d before, first_before last.det (dets_of (drop place kept)) d after)

-- a determinant that an item names is named
pub named_at : (xs : List Item) (n : ℕ) (x : Item) (det : Det) → slice_get xs n ≡ Some x → x.det ≡ det → names_det det xs ≡ true
named_at xs n x det there same = grind (arith, take-append-drop n xs, drop_got xs n x there, list_any-append, or_right, same_itself det)

-- a determinant after all items before an index, and before all items from it on, is not named
pub unnamed_at : (xs : List Item) (n : ℕ) (det : Det) → is_ascending (dets_of (take n xs) ++ det ∷ []) ≡ true → is_ascending (det ∷ dets_of (drop n xs)) ≡ true → names_det det xs ≡ false
unnamed_at xs n det before after =
    sym (any_map (λ item. item.det) (same_det det) (λ item. same_det det item.det) (λ item. refl) xs)
    ∙ grind (arith, take-append-drop n xs, dets_append (take n xs) (drop n xs), list_any-append (same_det det) (dets_of (take n xs)) (dets_of (drop n xs)), none_front (dets_of (take n xs)) det before, none_back det (dets_of (drop n xs)) after)

-- an item inserted where one was removed is between its neighbours
pub in_its_place : (f : ℕ) (det : Det) (known : Known) (xs : List Item) (n : ℕ) → n ≤ length xs
    → with_carried f det known (take n (take n xs ++ drop (suc n) xs)) ++ drop n (take n xs ++ drop (suc n) xs) ≡ with_carried f det known (take n xs) ++ drop (n + 1) xs
in_its_place f det known xs n within = grind (arith, length-take-le n xs within, take-append_seam, drop-append_seam)

-- the own determinant is added at the first item that does not come before it
module _ (f : ℕ) (log : LogMap) (own : Det) (news : Known) (xs : List Item) (place : ℕ) (is : xs ≡ batch_items f log) (before : is_ascending (dets_of (take place xs) ++ own ∷ []) ≡ true) (next : IfSome (slice_get xs place) (λ item. is_before item.det own ≡ false)) where
  after_own : IfSome (slice_get xs place) (λ item. same_det item.det own ≡ false) → is_ascending (own ∷ dets_of (drop place xs)) ≡ true
  after_own apart = next_after xs place own (rest_ascends f log (take place xs) (drop place xs) (take-append-drop place xs ∙ is)) next apart

  -- an item of it is replaced by what is known afterwards, if that is carried
  pub own_met : (item : Item) → slice_get xs place ≡ Some item → item.det ≡ own → with_carried f own (union_with (known_of_item item) news) (take place xs) ++ drop (place + 1) xs ≡ batch_items f (after_learn log own news)
  own_met item there same = grind (arith, met, drop_got, take-append-drop)

  -- it is not added if it is logged
  pub own_out : IfSome (slice_get xs place) (λ item. same_det item.det own ≡ false) → is_some (fin.get log own) ≡ true → xs ≡ batch_items f (after_learn log own news)
  own_out apart there = sym (take-append-drop place xs) ∙ logged_out f log own news (take place xs) (drop place xs) (take-append-drop place xs ∙ is) before (after_own apart) there

  -- otherwise it is added
  pub own_in : IfSome (slice_get xs place) (λ item. same_det item.det own ≡ false) → is_some (fin.get log own) ≡ false → with_carried f own (union_with unknown news) (take place xs) ++ drop place xs ≡ batch_items f (after_learn log own news)
  own_in apart new = comes_in f log own news (take place xs) (drop place xs) (take-append-drop place xs ∙ is) before (after_own apart) new

-- a union with holders that are known adds nothing
holders_in : (s t : set.FinSet nat_cmp) → set.is_subset s t ≡ true → set.union t s ≡ t
holders_in s t h = set.same_set nat_cmp_total set.nat_cmp-IsAntisymmetric _ _ (λ q. grind (arith, set.contains-union, nat_cmp_total, set.is_subset-contains nat_cmp_total s t h q))

-- learning of holders that are known changes nothing
pub learned_known : (log : LogMap) (det : Det) (news : Known) → news.stable ≡ false → are_known_to_hold log det news.holders ≡ true → after_learn log det news ≡ log
learned_known log det news plain known = fin.same_map dets_total exact_dets (after_learn log det news) log (λ q. grind (arith, get_learned log det news q, holders_in, same_is q det))

-- absorbing items whose holders are all known changes nothing
pub absorbed_known : (from me : Pid) (items : List Item) (log : LogMap) → list_all (λ item. are_known_to_hold log item.det (knowledge_from_item from me item).1.holders) items ≡ true → after_absorb items from me log ≡ log
absorbed_known from me [] log h = refl
absorbed_known from me (x ∷ xs) log h = grind (arith, learned_known log x.det (knowledge_from_item from me x).1 refl, absorbed_known from me xs log)

-- a log that differs from another only at these determinants
abbrev pub DiffersAt : List Det → LogMap → LogMap → Type 0
DiffersAt dets log other = (q : Det) → list_any (same_det q) dets ≡ false → fin.get other q ≡ fin.get log q

-- a cache that is right for a log is right for another one, except where they differ
pub right_elsewhere : (kept : Option CachedBatch) (dets : List Det) (log other now : LogMap) → now ≡ other → DiffersAt dets log other → CacheIsRight kept log → CacheIsRightBut dets kept now
right_elsewhere None dets log other now is differ right = right
right_elsewhere (Some k) dets log other now is differ right = λ q h. grind (arith, list_any-append (same_det q) dets k.changed.items, or_parts, right q, differ q)

-- learning changes what is learned
pub learned_elsewhere : (log : LogMap) (det : Det) (news : Known) → DiffersAt (det ∷ []) log (after_learn log det news)
learned_elsewhere log det news = λ q h. grind (arith, get_learned log det news q, or_parts)

pub all_learned_elsewhere : (es : List (Det × Known)) (log : LogMap) → DiffersAt (keys_of es) log (after_learn_all es log)
all_learned_elsewhere [] log = λ q h. refl
all_learned_elsewhere (e ∷ es) log = λ q h. grind (arith, all_learned_elsewhere es (after_learn log e.0 e.1) q, get_learned log e.0 e.1 q)

pub absorbed_elsewhere : (items : List Item) (from me : Pid) (log : LogMap) → DiffersAt (dets_of items) log (after_absorb items from me log)
absorbed_elsewhere items from me log = λ q h. all_learned_elsewhere _ log q (ap (list_any (same_det q)) (told_keys from me items) ∙ h)

pub marked_elsewhere : (log : LogMap) (det : Det) → DiffersAt (det ∷ []) log (after_mark log det)
marked_elsewhere log det = λ q h. grind (arith, get_marked log det q, or_parts)

-- the items once a determinant that has changed is looked up: `out` comes before it, `later` after it
module _ (f : ℕ) (log : LogMap) (det : Det) (out rest later : List Item) (before : is_ascending (dets_of out ++ det ∷ []) ≡ true) (after : is_ascending (det ∷ dets_of later) ≡ true) where
  pub looked_up_ascends : (o : Option Known) → is_ascending (dets_of (with_knowledge f det o out ++ later)) ≡ true
  looked_up_ascends o = grind (arith, append_assoc, dets_append, glue, without (dets_of out) det (dets_of later))

  none_out : lookup (same_det det) (item_entries out) ≡ None
  none_out = none_found det out (none_front (dets_of out) det before)

  none_later : lookup (same_det det) (item_entries later) ≡ None
  none_later = none_found det later (none_back det (dets_of later) after)

  found_there : (o : Option Known) → lookup (same_det det) (item_entries (with_knowledge f det o out ++ later)) ≡ carried_knowledge f o
  found_there o = grind (arith, found_append, append_assoc, none_out, none_later, same_itself, carried_unmarked)

  found_elsewhere : (o : Option Known) (q : Det) → same_det q det ≡ false → lookup (same_det q) (item_entries later) ≡ lookup (same_det q) (item_entries rest)
      → lookup (same_det q) (item_entries (with_knowledge f det o out ++ later)) ≡ lookup (same_det q) (item_entries (out ++ rest))
  found_elsewhere o q apart same = grind (arith, found_append, append_assoc)

  pub looked_up : ((q : Det) → same_det q det ≡ false → lookup (same_det q) (item_entries later) ≡ lookup (same_det q) (item_entries rest))
      → (others : List Det) → CarriesBut (det ∷ others) f log (out ++ rest) → CarriesBut others f log (with_knowledge f det (fin.get log det) out ++ later)
  looked_up same others right q h = grind (arith, same_is q det, found_there (fin.get log det), found_elsewhere (fin.get log det) q, same q, right q)

  -- what is copied comes before each later determinant
  pub before_next : (o : Option Known) (d : Det) → is_before det d ≡ true → is_ascending (dets_of (with_knowledge f det o out) ++ d ∷ []) ≡ true
  before_next None d low = raise (dets_of out) det d before low
  before_next (Some known) d low = before_later f det known out before d low

-- what is left of a list without its repeated elements has the same elements
any_left : (q k : Det) (ds : List Det) → list_any (same_det q) (dedup_from same_det k ds) ≡ list_any (same_det q) (k ∷ ds)
any_left q k [] = refl
any_left q k (d ∷ ds) = grind (arith, any_left q k ds, any_left q d ds, same_is d k)

pub any_once : (q : Det) (ds : List Det) → list_any (same_det q) (dedup same_det ds) ≡ list_any (same_det q) ds
any_once q [] = refl
any_once q (d ∷ ds) = any_left q d ds
