-- Entries keyed by slot and number: look-ups find each determinant, and all determinants of a slot, also after an entry
-- was added, its value changed or entries were removed.
use Rattle.std.proofs.Common.{ℕ, zero, suc, ◌≡◌, ◌∙◌, inl, inr, ◌<◌, ◌≤◌, ◌+◌, Bool, true, false, cond, All, Option, Some, None, IfSome, is_some, List, filter, [], ◌∷◌, ◌++◌, length, set, slice_get, true≢false, refl, sym, ap, subst, arith, unwrap_or}
use Rattle.causal_log.proofs.Lemmas.Searches.{or_nothing, same_turned}
use Rattle.std.proofs.lemmas.Option.{IfSome_then, get_or_from_slice_get}
use borrow.Author.Count.{below_more}
use Rattle.std.proofs.lemmas.Bool.{false_from_ne_true, or_cases, and_parts, eqb-true}
use Rattle.std.proofs.lemmas.List.{map-append, length_push}
use Rattle.std.proofs.lemmas.List.Folds.{list_any-append}
use Rattle.std.proofs.lemmas.Map.Keys.{IsDistinct-push}
use Rattle.std.proofs.lemmas.Map.Steps.{length-le_from_keys}
use Rattle.std.specs.List.Sorted.{IsSortedByKey}
use Rattle.std.specs.Ordering.{is_lt}
use Rattle.std.specs.Option.{option_map, IsSome}
use Rattle.indexmap.specs.IndexMap.{set_value_at}
use Rattle.std.proofs.lemmas.Bool.Decides.{nat_tests}
use Rattle.std.proofs.lemmas.List.Elements.{All-contains, All-cons, All-head, All-nil, All-tail, All-push, All-weaker, All-filter}
use Rattle.std.proofs.lemmas.Map.Made.{is_some-lookup, Contains-from_values_of, IsDistinct-keys_filter}
use Rattle.std.proofs.lemmas.Map.Views.{Contains-from_lookup, IfSome-lookup, lookup-from_Contains}
use Rattle.std.specs.Cmp.{IsEquivalence}
use Rattle.std.specs.List.{IsDistinct, list_any, AllByRecursion}
use Rattle.std.specs.Map.{lookup, keys_of, values_of}
use Rattle.causal_name.specs.declared.Det.{Det}
use Rattle.causal_name.specs.declared.Slot.{Slot}
use Rattle.causal_name.specs.Names.{same_det, slot_of, is_before, det_cmp}
use Rattle.causal_name.proofs.Lemmas.DetOrder.{same_is, same_itself, dets_total, exact_dets}
use Rattle.causal_log.specs.declared.known.Known.{Known}
use Rattle.causal_log.specs.declared.table.SlotKey.{SlotKey}
use Rattle.causal_log.specs.Slots.{is_of_slot}
use Rattle.causal_log.specs.Inside.Ranks.{IsAmong, IsLeastOfSlot, lesser_det}
use Rattle.causal_log.specs.Inside.KeyWords.{same_slot_key_is}
use Rattle.causal_log.specs.Inside.Tables.{HasSlotKey, IsNotLater, is_later, slot_key, same_slot_key, IsTable}
use Rattle.causal_log.proofs.EntryLemmas.{inserted, below, map_sorted, not_itself, det_equiv, get_log}
use Rattle.causal_log.proofs.Lemmas.Ascents.{before_trans}
use Rattle.std.specs.FinMap as fin
use Rattle.causal_log.specs.declared.limits.TheConstants.{MAX_LOGGED}
use Rattle.causal_log.specs.Logs.{log_of}
use Rattle.std.proofs.Math.Seq.{map-set_same}

pub slot_key_equiv : IsEquivalence same_slot_key
slot_key_equiv = record { refl = λ p. grind (arith, nat_tests); symm = λ p q. grind (arith, nat_tests); congr = λ p q r h. ap (λ x. same_slot_key x r) (same_slot_key_is p q h) }

slot_is : (slot : Slot) (q : Det) → is_of_slot slot.dest slot.rsn q ≡ true → slot_of q ≡ slot
slot_is slot q h = grind (arith, and_parts, eqb-true)

slot_fits : (slot : Slot) (q : Det) → slot ≡ slot_of q → is_of_slot slot.dest slot.rsn q ≡ true
slot_fits slot q h = grind (arith, nat_tests)

-- the next determinant does not come before the one found so far
abbrev pub IsNotAfter : Option Det → Det → Type 0
IsNotAfter None q = ⊥
IsNotAfter (Some d) q = is_before q d ≡ false

-- of the lesser of two determinants: what held of the one found so far still holds
lesser_keeps : (least o : Option Det) (q : Det) → IsNotAfter least q → IsNotAfter (lesser_det least o) q
lesser_keeps None o q h = absurd h
lesser_keeps (Some d) None q h = h
lesser_keeps (Some d) (Some e) q h =
    elim (is_before e d) as (λ b. is_before e d ≡ b → IsNotAfter (cond b (Some e) (Some d)) q) [
      | true ↦ λ low. false_from_ne_true (is_before q e) (λ k. true≢false (sym (before_trans q e d k low) ∙ h))
      | false ↦ λ high. h
    ] refl

lesser_own : (least : Option Det) (e : Det) → IsNotAfter (lesser_det least (Some e)) e
lesser_own None e = not_itself e
lesser_own (Some d) e = grind (arith, not_itself e)

lesser_has : (P : Det → Type 0) (least o : Option Det) → IfSome least P → IfSome o P → IfSome (lesser_det least o) P
lesser_has P None o p q = q
lesser_has P (Some d) None p q = p
lesser_has P (Some d) (Some e) p q = elim (is_before e d) as (λ b. IfSome (cond b (Some e) (Some d)) P) [ true ↦ q | false ↦ p ]

abbrev pub Entries : Type 0
Entries = List (SlotKey × (Det × Known))

-- the entry of a slot with this number
abbrev pub entry_of_key : Entries → Slot → ℕ → Option (Det × Known)
entry_of_key es slot n = lookup (same_slot_key (slot_key slot n)) es

-- no entry of a determinant's slot with a number below n has the determinant
abbrev pub IsAbsentBelow : Entries → Det → ℕ → Type 0
IsAbsentBelow es d n = (j : ℕ) → j < n → IfSome (entry_of_key es (slot_of d) j) (λ e. same_det d e.0 ≡ false)

-- the least determinant of a slot among the entries with a number below n
pub record IsLeastBelow (es : Entries) (slot : Slot) (n : ℕ) (least : Option Det) : Type 0 where
  pub fills_slot : IfSome least (λ d. (is_of_slot slot.dest slot.rsn d ≡ true) × IsAmong d (keys_of (values_of es)))
  pub is_least : (j : ℕ) → j < n → IfSome (entry_of_key es slot j) (λ e. IsNotAfter least e.0)

-- the determinant that a look-up finds is in the list
any_value : (test : SlotKey → Bool) (es : Entries) (e : Det × Known) → lookup test es ≡ Some e → IsAmong e.0 (keys_of (values_of es))
any_value test [] e h = absurd (true≢false (sym (ap is_some h)))
any_value test (x ∷ es) e h = grind (arith, any_value test es e, same_itself e.0)

-- a determinant that the entry with the next number lacks too
pub absent_one_more : (es : Entries) (d : Det) (n : ℕ) → IsAbsentBelow es d n → IfSome (entry_of_key es (slot_of d) n) (λ e. same_det d e.0 ≡ false) → IsAbsentBelow es d (n + 1)
absent_one_more es d n absent here = below_more (λ j. IfSome (entry_of_key es (slot_of d) j) (λ e. same_det d e.0 ≡ false)) n absent here

-- what holds of each entry still does after the value of the entry at an index is replaced
pub all_set : (P : SlotKey × (Det × Known) → Type 0) (es : Entries) (i : ℕ) (w : Det × Known) → ((k : SlotKey) (v : Det × Known) → slice_get (values_of es) i ≡ Some v → P (k, v) → P (k, w)) → All P es → All P (set_value_at es i w)
all_set P [] i w put all = all
all_set P (e ∷ es) zero w put all = All-cons P (e.0, w) es (put e.0 e.1 refl (All-head P e es all)) (All-tail P e es all)
all_set P (e ∷ es) (suc i) w put all = All-cons P e (set_value_at es i w) (All-head P e es all) (all_set P es i w put (All-tail P e es all))

-- what holds of each key holds of the entries
pub all_keys : (P : SlotKey → Type 0) (es : Entries) → All P (keys_of es) → All (λ e. P e.0) es
all_keys P [] all = All-nil (λ e. P e.0)
all_keys P (e ∷ es) all = All-cons (λ e. P e.0) e es (All-head P e.0 (keys_of es) all) (all_keys P es (All-tail P e.0 (keys_of es) all))

module _ {K X : Type 0} where
  pub values_set : (es : List (K × X)) (i : ℕ) (w : X) → values_of (set_value_at es i w) ≡ set (values_of es) i w
  values_set [] i w = refl
  values_set (e ∷ es) zero w = refl
  values_set (e ∷ es) (suc i) w = ap (λ vs. e.1 ∷ vs) (values_set es i w)

  pub length_set : (es : List (K × X)) (i : ℕ) (w : X) → length (set_value_at es i w) ≡ length es
  length_set [] i w = refl
  length_set (e ∷ es) zero w = refl
  length_set (e ∷ es) (suc i) w = ap suc (length_set es i w)

  pub values_push : (es : List (K × X)) (k : K) (v : X) → values_of (es ++ (k, v) ∷ []) ≡ values_of es ++ v ∷ []
  values_push es k v = map-append (λ e. e.1) es ((k, v) ∷ [])

  pub values_filter : (p : X → Bool) (es : List (K × X)) → values_of (filter (λ e. p e.1) es) ≡ filter p (values_of es)
  values_filter p [] = refl
  values_filter p (e ∷ es) = grind (arith, values_filter p es)

-- the values of entries that are sorted by determinant are sorted by determinant
pub values_sorted : (es : Entries) → IsSortedByKey (λ e. e.1.0) det_cmp es → IsSortedByKey (λ v. v.0) det_cmp (values_of es)
values_sorted = map_sorted (λ e. e.1) (λ v w. is_lt (det_cmp v.0 w.0))

module _ (es : Entries) (numbers : ℕ) (keyed : All (HasSlotKey numbers) es) where
  -- an entry that a look-up finds has the key of the look-up
  entry_has_key : (slot : Slot) (n : ℕ) (e : Det × Known) → entry_of_key es slot n ≡ Some e → HasSlotKey numbers (slot_key slot n, e)
  entry_has_key slot n e h = All-contains (HasSlotKey numbers) es (slot_key slot n, e) keyed (Contains-from_lookup same_slot_key_is (slot_key slot n) e es h)

  -- the lesser of the determinant found so far and the next number's is the least of one more number
  pub least_one_more : (slot : Slot) (n : ℕ) (least : Option Det) → IsLeastBelow es slot n least → IsLeastBelow es slot (n + 1) (lesser_det least (option_map (λ e. e.0) (entry_of_key es slot n)))
  least_one_more slot n least has = record {
    fills_slot = lesser_has _ least _ has.fills_slot (found (entry_of_key es slot n) refl);
    is_least = below_more (λ j. IfSome (entry_of_key es slot j) (λ e. IsNotAfter (lesser_det least (option_map (λ x. x.0) (entry_of_key es slot n))) e.0)) n
        (λ j low. IfSome_then (entry_of_key es slot j) (has.is_least j low) (λ e. lesser_keeps least (option_map (λ x. x.0) (entry_of_key es slot n)) e.0)) (own (entry_of_key es slot n));
  }
    where
      found : (o : Option (Det × Known)) → entry_of_key es slot n ≡ o → IfSome (option_map (λ e. e.0) o) (λ d. (is_of_slot slot.dest slot.rsn d ≡ true) × IsAmong d (keys_of (values_of es)))
      found None at = tt
      found (Some e) at = (slot_fits slot e.0 (entry_has_key slot n e at).slot, any_value (same_slot_key (slot_key slot n)) es e at)

      own : (o : Option (Det × Known)) → IfSome o (λ e. IsNotAfter (lesser_det least (option_map (λ x. x.0) o)) e.0)
      own None = tt
      own (Some e) = lesser_own least e.0

  -- no entry has the number that bounds all
  pub none_at_bound : (slot : Slot) → entry_of_key es slot numbers ≡ None
  none_at_bound slot = grind (arith, IfSome_then (entry_of_key es slot numbers) (IfSome-lookup same_slot_key_is (slot_key slot numbers) es) (λ e at. (All-contains (HasSlotKey numbers) es (slot_key slot numbers, e) keyed at).number))

  -- a determinant whose slot is later than those of all entries is not in the list
  pub absent_later : (last : Option Slot) (d : Det) → All (IsNotLater last) es → is_later last (slot_of d) ≡ true → list_any (same_det d) (keys_of (values_of es)) ≡ false
  absent_later last d ended later = by (lookup (same_det d) (values_of es)) refl
    where
      by : (o : Option Known) → lookup (same_det d) (values_of es) ≡ o → list_any (same_det d) (keys_of (values_of es)) ≡ false
      by None none = sym (is_some-lookup (same_det d) (values_of es)) ∙ ap is_some none
      by (Some v) some =
          let way = Contains-from_values_of es (d, v) (Contains-from_lookup same_is d v (values_of es) some) in
          let own = (All-contains (HasSlotKey numbers) es (way.0, (d, v)) keyed way.1).slot in
          absurd (true≢false (sym later ∙ ap (is_later last) (sym own) ∙ All-contains (IsNotLater last) es (way.0, (d, v)) ended way.1))

  -- no listed determinant fills a later slot
  pub none_later : (last : Option Slot) (slot : Slot) → All (IsNotLater last) es → is_later last slot ≡ true → IsLeastOfSlot slot.dest slot.rsn (keys_of (values_of es)) None
  none_later last slot ended later = λ q there. false_from_ne_true (is_of_slot slot.dest slot.rsn q) (λ fit. true≢false (sym there ∙ absent_later last q ended (ap (is_later last) (slot_is slot q fit) ∙ later)))

  module _ (distinct : IsDistinct same_slot_key (keys_of es)) where
    -- a listed determinant's entry is found by its slot and some number
    entry_of_det : (d : Det) → IsAmong d (keys_of (values_of es)) → (n : ℕ) × (v : Known) × (n < numbers) × (entry_of_key es (slot_of d) n ≡ Some (d, v))
    entry_of_det d h = by (lookup (same_det d) (values_of es)) refl
      where
        by : (o : Option Known) → lookup (same_det d) (values_of es) ≡ o → (n : ℕ) × (v : Known) × (n < numbers) × (entry_of_key es (slot_of d) n ≡ Some (d, v))
        by None none = absurd (true≢false (sym h ∙ sym (is_some-lookup (same_det d) (values_of es)) ∙ ap is_some none))
        by (Some v) some =
            let there = Contains-from_values_of es (d, v) (Contains-from_lookup same_is d v (values_of es) some) in
            let so = All-contains (HasSlotKey numbers) es (there.0, (d, v)) keyed there.1 in
            (there.0.number, v, so.number, ap (λ s. entry_of_key es s there.0.number) (sym so.slot) ∙ lookup-from_Contains slot_key_equiv there.0 (d, v) es distinct there.1)

    -- a determinant that no number has is not in the list
    pub absent_everywhere : (d : Det) → IsAbsentBelow es d numbers → list_any (same_det d) (keys_of (values_of es)) ≡ false
    absent_everywhere d none = false_from_ne_true (list_any (same_det d) (keys_of (values_of es))) (λ h. let way = entry_of_det d h in grind (arith, same_itself d, none way.0 way.2, way.3))

    -- if all entries have the number 0, a determinant whose slot has no entry is not in the list
    pub absent_if_first : (slot : Slot) (d : Det) → slot ≡ slot_of d → numbers ≤ 1 → entry_of_key es slot 0 ≡ None → list_any (same_det d) (keys_of (values_of es)) ≡ false
    absent_if_first slot d own few none = absent_everywhere d (λ j low. let zeroth : j ≡ 0 = omega (arith, low, few) in grind (arith, none))

    -- the least of all numbers is the least of the slot
    pub least_of_all : (slot : Slot) (least : Option Det) → IsLeastBelow es slot numbers least → IsLeastOfSlot slot.dest slot.rsn (keys_of (values_of es)) least
    least_of_all slot None has = λ q there. false_from_ne_true (is_of_slot slot.dest slot.rsn q) (λ fit. let way = entry_of_det q there in grind (arith, has.is_least way.0 way.2, slot_is slot q fit, way.3))
    least_of_all slot (Some d) has = (
      has.fills_slot.0,
      has.fills_slot.1,
      λ q there fit. let way = entry_of_det q there in let low : is_before q d ≡ false = grind (arith, has.is_least way.0 way.2, slot_is slot q fit, way.3) in grind (arith, same_is d q, below d q low),
    )

-- the keys of a slot with numbers below n
abbrev keys_below : Slot → ℕ → List SlotKey
keys_below slot zero = []
keys_below slot (suc n) = keys_below slot n ++ slot_key slot n ∷ []

key_below : (slot : Slot) (n : ℕ) (q : SlotKey) → list_any (same_slot_key q) (keys_below slot n) ≡ true → (j : ℕ) × (j < n) × (q ≡ slot_key slot j)
key_below slot zero q h = absurd (true≢false (sym h))
key_below slot (suc n) q h =
    elim (or_cases (list_any (same_slot_key q) (keys_below slot n)) (list_any (same_slot_key q) (slot_key slot n ∷ [])) (sym (list_any-append (same_slot_key q) (keys_below slot n) (slot_key slot n ∷ [])) ∙ h)) [
      | inl old ↦ let was = key_below slot n q old in (was.0, omega (arith, was.1), was.2)
      | inr new ↦ (n, omega arith, same_slot_key_is q (slot_key slot n) (or_nothing (same_slot_key q (slot_key slot n)) ∙ new))
    ]

keys_below_distinct : (slot : Slot) (n : ℕ) → IsDistinct same_slot_key (keys_below slot n)
unfolding IsDistinct
keys_below_distinct slot zero = tt
keys_below_distinct slot (suc n) =
    IsDistinct-push slot_key_equiv (keys_below slot n) (slot_key slot n) (keys_below_distinct slot n)
    (false_from_ne_true (list_any (same_slot_key (slot_key slot n)) (keys_below slot n)) (λ h. let found = key_below slot n (slot_key slot n) h in let is : n ≡ found.0 = ap (λ k. k.number) found.2 in omega (arith, is, found.1)))

keys_below_length : (slot : Slot) (n : ℕ) → length (keys_below slot n) ≡ n
keys_below_length slot zero = refl
keys_below_length slot (suc n) = omega (arith, length_push (keys_below slot n) (slot_key slot n), keys_below_length slot n)

-- if entries have all numbers below n of a slot, there are at least n
pub used_numbers_few : (es : Entries) (slot : Slot) (n : ℕ) → ((j : ℕ) → j < n → IsSome (entry_of_key es slot j)) → n ≤ length es
used_numbers_few es slot n used =
    let few = length-le_from_keys slot_key_equiv (keys_below slot n) es (keys_below_distinct slot n) (λ q h. let found = key_below slot n q h in subst (λ k. IsSome (lookup (same_slot_key k) es)) (sym found.2) (used found.0 found.1)) in
    omega (arith, few, keys_below_length slot n)

module _ {V : Type 0} where
  all_at : (P : Det → Type 0) (es : List (Det × V)) (i : ℕ) (d : Det) (v : V) → AllByRecursion P (keys_of es) → slice_get es i ≡ Some (d, v) → P d
  all_at P [] i d v all at = absurd (true≢false (sym (ap is_some at)))
  all_at P (e ∷ es) zero d v all at = subst P (ap (λ o. (unwrap_or o e).0) at) all.0
  all_at P (e ∷ es) (suc i) d v all at = all_at P es i d v all.1 at

  -- after the value of an entry is changed, a look-up returns it, and all others as before
  pub lookup_set : (es : List (Det × V)) (i : ℕ) (d : Det) (was v : V) → IsDistinct same_det (keys_of es) → slice_get es i ≡ Some (d, was)
      → (q : Det) → lookup (same_det q) (set es i (d, v)) ≡ cond (same_det d q) (Some v) (lookup (same_det q) es)
  unfolding IsDistinct
  lookup_set [] i d was v distinct at q = absurd (true≢false (sym (ap is_some at)))
  lookup_set (e ∷ es) zero d was v distinct at q = grind (arith, same_turned)
  lookup_set (e ∷ es) (suc i) d was v distinct at q =
      grind (arith, all_at (λ y. same_det e.0 y ≡ false) es i d was distinct.0 at, lookup_set es i d was v distinct.1 at q, same_is q e.0, same_turned d e.0)

  -- one more entry adds one determinant to the keys
  pub keys_push : (es : List (Det × V)) (d : Det) (v : V) → keys_of (es ++ (d, v) ∷ []) ≡ keys_of es ++ d ∷ []
  keys_push es d v = map-append (λ e. e.0) es ((d, v) ∷ [])

  -- a look-up of a determinant without entry returns nothing
  pub lookup_missing : (es : List (Det × V)) (d : Det) → list_any (same_det d) (keys_of es) ≡ false → lookup (same_det d) es ≡ None
  lookup_missing es d h = grind (arith, is_some-lookup (same_det d) es)

  -- replacing the value of the entry at an index leaves the keys unchanged
  pub keys_set : (es : List (Det × V)) (i : ℕ) (x : Det × V) (v : V) → slice_get es i ≡ Some x → keys_of (set es i (x.0, v)) ≡ keys_of es
  keys_set es i x v at = map-set_same (λ e. e.0) es i (x.0, v) x (sym (ap (λ e. e.0) (get_or_from_slice_get es i x x at)))

-- an empty list is distinct
pub none_distinct : IsDistinct same_det []
unfolding IsDistinct
none_distinct = tt

-- if all entries have the number 0, a determinant whose slot has no entry is not logged
pub first_new : (es : Entries) (numbers : ℕ) → All (HasSlotKey numbers) es → IsDistinct same_slot_key (keys_of es) → (slot : Slot) (d : Det) → slot ≡ slot_of d → numbers ≤ 1
    → lookup (same_slot_key (slot_key slot 0)) es ≡ None → fin.get (log_of (values_of es)) d ≡ None
first_new es numbers keyed distinct slot d own few none = get_log (values_of es) d ∙ lookup_missing (values_of es) d (absent_if_first es numbers keyed distinct slot d own few none)

-- after an entry with a new determinant is appended to a table's entries
module _ (es fs : Entries) (key : SlotKey) (e : Det × Known) (added : fs ≡ es ++ (key, e) ∷ []) where
  pub pushed_keys : keys_of (values_of fs) ≡ keys_of (values_of es) ++ e.0 ∷ []
  pushed_keys = ap (λ gs. keys_of (values_of gs)) added ∙ ap keys_of (values_push es key e) ∙ keys_push (values_of es) e.0 e.1

  module _ (new : fin.get (log_of (values_of es)) e.0 ≡ None) where
    pub pushed_log : log_of (values_of fs) ≡ fin.insert (log_of (values_of es)) e.0 e.1
    pushed_log =
        ap (λ gs. log_of (values_of gs)) added ∙ ap log_of (values_push es key e)
        ∙ fin.from_entries_push dets_total exact_dets (values_of es) e.0 e.1 (sym (fin.get-from_entries dets_total (values_of es) e.0) ∙ new)

    pub pushed_table : (numbers room spare : ℕ) (last : Option Slot) → IsTable es numbers last room spare
        → (most left space : ℕ) (later : Option Slot) → HasSlotKey most (key, e) → numbers ≤ most → most ≤ MAX_LOGGED → left + 1 ≡ room → left ≤ space
        → ((slot : Slot) → is_later last slot ≡ false → is_later later slot ≡ false) → is_later later key.slot ≡ false → IsTable fs most later left space
    pushed_table numbers room spare last h most left space later own up fits one low kept here = record {
      distinct = subst (IsDistinct same_det) (sym pushed_keys) (IsDistinct-push det_equiv (keys_of (values_of es)) e.0 h.distinct (grind (arith, is_some-lookup (same_det e.0) (values_of es), get_log (values_of es) e.0)));
      keyed =
          subst (All (HasSlotKey most)) (sym added)
          (All-push (HasSlotKey most) es (key, e) (All-weaker (HasSlotKey numbers) (HasSlotKey most) (λ x so. record { slot = so.slot; number = omega (arith, so.number, up) }) es h.keyed) own);
      ended = subst (All (IsNotLater later)) (sym added) (All-push (IsNotLater later) es (key, e) (All-weaker (IsNotLater last) (IsNotLater later) (λ x so. kept x.0.slot so) es h.ended) here);
      few = omega (arith, ap length added, length_push es (key, e), h.few);
      numbers_fit = fits;
      entries_fit = low;
    }

-- after the entries that fail a test are removed from a table's entries
pub filtered_table : (es fs : Entries) (p : Det × Known → Bool) (numbers room spare space : ℕ) (last : Option Slot) → IsTable es numbers last room spare
    → fs ≡ filter (λ e. p e.1) es → length fs ≤ length es → room ≤ space → IsTable fs numbers last room space
filtered_table es fs p numbers room spare space last h is less low = record {
  distinct = subst (λ vs. IsDistinct same_det (keys_of vs)) (sym (ap values_of is ∙ values_filter p es)) (IsDistinct-keys_filter same_det p (values_of es) h.distinct);
  keyed = subst (All (HasSlotKey numbers)) (sym is) (All-filter (λ e. p e.1) (HasSlotKey numbers) es h.keyed);
  ended = subst (All (IsNotLater last)) (sym is) (All-filter (λ e. p e.1) (IsNotLater last) es h.ended);
  few = omega (arith, less, h.few);
  numbers_fit = h.numbers_fit;
  entries_fit = low;
}

-- after the value of an entry of a table is changed
pub set_table : (es : Entries) (i : ℕ) (x : Det × Known) (k : Known) (numbers room spare : ℕ) (last : Option Slot) → IsTable es numbers last room spare
    → slice_get (values_of es) i ≡ Some x → IsTable (set_value_at es i (x.0, k)) numbers last room spare
set_table es i x k numbers room spare last h at = record {
  distinct = rw (values_set es i (x.0, k), keys_set (values_of es) i x k at) h.distinct;
  keyed = all_set (HasSlotKey numbers) es i (x.0, k) (λ key v there so. grind arith) h.keyed;
  ended = all_set (IsNotLater last) es i (x.0, k) (λ key v there so. so) h.ended;
  few = omega (arith, length_set es i (x.0, k), h.few);
  numbers_fit = h.numbers_fit;
  entries_fit = h.entries_fit;
}

pub set_log : (es : Entries) (i : ℕ) (d : Det) (was k : Known) → IsDistinct same_det (keys_of (values_of es)) → slice_get (values_of es) i ≡ Some (d, was)
    → log_of (values_of (set_value_at es i (d, k))) ≡ fin.insert (log_of (values_of es)) d k
set_log es i d was k distinct at = ap log_of (values_set es i (d, k)) ∙ inserted (values_of es) _ d k (lookup_set (values_of es) i d was k distinct at)
