-- The search for open deliveries, determinant by determinant.
use Rattle.causal_audit.proofs.Common.{FinSet, nat_cmp, ℕ, ◌≡◌, ◌+◌, ◌<◌, ◌≤◌, inl, inr, List, [], ◌∷◌, ◌++◌, length, Option, None, Some, refl, sym, ap, subst, ◌∙◌, arith, slice_index, Contains, map-append, All-push, Contains-append_left, Contains-append_right, Contains-push, Contains-permutation, IsPermutation, IsPermutation-map, All-permutation, cases_lt, cond-true, cond-false, eq-eqb, ltb-true, ltb-false, Det, Entry, Deliver, deliveries_in, det_at, det_then, instant, instant_length, AreLegalEntries}
use Rattle.std.proofs.lemmas.Bool.{lt-ltb}
use Rattle.std.proofs.lemmas.List.Elements.{All-append}
use Rattle.causal_trace.specs.Numbers.{delivered_dets, number_of}
use Rattle.causal_trace.proofs.Lemmas.DeliveryNumbers.{number_among, number_below, found_below, numbers_apart}
use Rattle.causal_audit.specs.Numbers.{IsNumbered}
use Rattle.causal_audit.specs.declared.group.walk_input.OpenDelivery.{OpenDelivery}
use Rattle.causal_audit.specs.Searches.{SearchScope, IncludeUnsafe, IsNewest, delivery_count}
use Rattle.causal_audit.specs.Inside.Group.OpenDeliveries.{IsOpenDeliverySearch, AreFollowed, AreAllOpen, AreListedOrSafe, AreOpenBetween, HasMore, IsDeliveryAt, IsOpenDelivery, IsListedOrSafe, positions_of}
use Rattle.causal_audit.specs.declared.index.mentions.Mentions.{Mentions}
use Rattle.causal_audit.proofs.DeliveryNumbers.{numbered_below, numbered_later, numbered_some}
use Rattle.causal_audit.proofs.Lemmas.NumberLemmas.{has_number}
use Rattle.causal_audit.proofs.NoOrphanSoFar.{not_yet}
use Rattle.causal_audit.proofs.group.OpenPositions.{position}
use Rattle.causal_audit.proofs.index.Filings.{number_of_found}
use Rattle.causal_name.proofs.Lemmas.DetOrder.{same_is, same_itself}

-- ==== deliveries by their numbers and by their determinants

-- each delivery has a determinant
dets_counted : (n : ℕ) (past : List Entry) → AreLegalEntries n past → length (delivered_dets past) ≡ deliveries_in past
dets_counted n [] formed = refl
dets_counted n (Deliver to send rsn listed ∷ past) formed = grind (arith, dets_counted n past formed.0, numbered_some n (Deliver to send rsn listed ∷ past) (deliveries_in past) (length past) formed (inr (refl, refl, refl)))
dets_counted n (e ∷ past) formed = dets_counted n past formed.0

numbered_within : (past : List Entry) (i k : ℕ) → IsNumbered past i k → k < length past
numbered_within [] i k numbered = absurd numbered
numbered_within (e ∷ past) i k numbered = grind (arith, numbered_within past i k)

-- the newest delivery up to number i with the determinant of delivery number i is that delivery
pub number_of_own : (n : ℕ) (past : List Entry) → AreLegalEntries n past → (i k : ℕ) (d : Det) → IsNumbered past i k → det_at past k ≡ Some d → number_of (i + 1) (delivered_dets past) d ≡ Some i
number_of_own n [] formed i k d numbered at = absurd numbered
number_of_own n (e ∷ past) formed i k d (inr new) at = grind (arith, cond-true, eq-eqb, dets_counted, lt-ltb, same_itself)
number_of_own n (e ∷ past) formed i k d (inl old) at =
    grind (arith, number_of_own n past formed.0 i k d old, numbered_within, cond-false, dets_counted, numbered_below)

-- the determinant is that of the delivery
pub det_of_number : (n : ℕ) (past : List Entry) → AreLegalEntries n past → (j k : ℕ) (d : Det) → number_of (j + 1) (delivered_dets past) d ≡ Some j → IsNumbered past j k → det_at past k ≡ Some d
det_of_number n past formed j k d is numbered =
    let some = numbered_some n past j k formed numbered in
    let same : some.0 ≡ d = same_is some.0 d (numbers_apart (j + 1) (delivered_dets past) some.0 d j (number_of_own n past formed j k some.0 numbered some.1) is) in
    some.1 ∙ ap (λ x. Some x) same

-- the delivery with a number before the end of a search
module _ (inside scope : SearchScope) (view : inside ≡ scope) (mentions : Mentions) (departures : List ℕ) (reached : List (FinSet nat_cmp)) (positions : List ℕ)
    (kept : IsOpenDeliverySearch inside.run inside.end mentions departures reached positions) (number : ℕ) (few : number < delivery_count scope) where
  pub numbered_then : IsNumbered (instant scope.run.past scope.end) number (slice_index positions number)
  numbered_then =
      subst (λ (s : SearchScope). number < delivery_count s → IsNumbered (instant s.run.past s.end) number (slice_index positions number)) view
      (λ low. kept.numbered.each number (omega (arith, low, kept.numbered.count))) few

  pub within_run : scope.end ≤ length scope.run.past
  within_run = subst (λ (s : SearchScope). s.end ≤ length s.run.past) view kept.within

  pub legal : AreLegalEntries scope.run.processes scope.run.past
  legal = subst (λ (s : SearchScope). AreLegalEntries s.run.processes s.run.past) view kept.formed.accepted

  pub numbered_here : IsNumbered scope.run.past number (slice_index positions number)
  numbered_here = numbered_later scope.run.past scope.end number (slice_index positions number) within_run numbered_then

  pub before_end : slice_index positions number < scope.end
  before_end = omega (arith, numbered_within (instant scope.run.past scope.end) number (slice_index positions number) numbered_then, instant_length scope.run.past scope.end within_run)

  -- it has a determinant, of which it is the newest delivery up to its number
  pub det_here : (o : Option Det) → o ≡ det_at inside.run.past (slice_index positions number) → (d : Det) × (o ≡ Some d) × (number_of (number + 1) (delivered_dets scope.run.past) d ≡ Some number)
  det_here o read =
      let some = numbered_some scope.run.processes scope.run.past number (slice_index positions number) legal numbered_here in
      (some.0, read ∙ ap (λ (s : SearchScope). det_at s.run.past (slice_index positions number)) view ∙ some.1, number_of_own scope.run.processes scope.run.past legal number (slice_index positions number) some.0 numbered_here some.1)

  pub own_here : (o : Option Det) (d : Det) → o ≡ det_at inside.run.past (slice_index positions number) → o ≡ Some d → number_of (number + 1) (delivered_dets scope.run.past) d ≡ Some number
  own_here o d read is = grind (arith, det_here o read)

-- ==== the newest delivery with a determinant

-- among more deliveries the newest is no older
pub newest_later : (m n : ℕ) (dets : List Det) (d : Det) (i j : ℕ) → m ≤ n → number_of m dets d ≡ Some i → number_of n dets d ≡ Some j → i ≤ j
newest_later m n [] d i j wider at to = absurd (let x : None ≡ Some i = at in cc)
newest_later m n (x ∷ older) d i j wider at to =
    grind (arith, cond-true, cond-false, lt-ltb, ltb-true, ltb-false, found_below, number_below m older d, newest_later m n older d i j wider)

-- among more deliveries there is one too
pub newest_there : (m n : ℕ) (dets : List Det) (d : Det) (i : ℕ) → m ≤ n → number_of m dets d ≡ Some i → number_of n dets d ≡ None → ⊥
newest_there m n [] d i wider at to = let x : None ≡ Some i = at in cc
newest_there m n (x ∷ older) d i wider at to = grind (arith, cond-true, cond-false, lt-ltb, ltb-true, ltb-false, newest_there m n older d i wider)

-- the newest among more deliveries is the newest among fewer, if it is one of them
pub newest_among_fewer : (m n : ℕ) (dets : List Det) (d : Det) (i : ℕ) → i < m → m ≤ n → number_of n dets d ≡ Some i → number_of m dets d ≡ Some i
newest_among_fewer m n [] d i low wider at = absurd (let x : None ≡ Some i = at in cc)
newest_among_fewer m n (x ∷ older) d i low wider at =
    grind (arith, cond-true, cond-false, lt-ltb, ltb-true, ltb-false, found_below, number_below n older d, newest_among_fewer m n older d i low wider)

-- a delivery before the end has a newest one with its determinant, at its own number or later
pub has_newest : (scope : SearchScope) → AreLegalEntries scope.run.processes scope.run.past → scope.end ≤ length scope.run.past → (k : ℕ) (d : Det) → k < scope.end → det_at scope.run.past k ≡ Some d → (i : ℕ) × IsNewest scope d i × (i < delivery_count scope)
has_newest scope formed within k d early at =
    let past = scope.run.past in
    let dets = delivered_dets past in
    let count = delivery_count scope in
    let number = has_number (instant past scope.end) k d (det_then past scope.end k early within ∙ at) in
    let own = number_of_own scope.run.processes past formed number.0 k d (numbered_later past scope.end number.0 k within number.2) at in
    let newest : (i : ℕ) × (number_of count dets d ≡ Some i) = grind (arith, newest_there (number.0 + 1) count dets d number.0 (omega (arith, number.1)) own) in
    (newest.0, newest.1, found_below (number_of count dets d) count newest.0 (number_among count dets d) newest.1)

-- the deliveries with a determinant, by their numbers
module _ (scope : SearchScope) (formed : AreLegalEntries scope.run.processes scope.run.past) (i k : ℕ) (d : Det) (numbered : IsNumbered scope.run.past i k) (at : det_at scope.run.past k ≡ Some d) where
  own : number_of (i + 1) (delivered_dets scope.run.past) d ≡ Some i
  own = number_of_own scope.run.processes scope.run.past formed i k d numbered at

  -- none below a number is newer than the newest below it
  pub none_newer : (number newest : ℕ) → i < number → number_of number (delivered_dets scope.run.past) d ≡ Some newest → i ≤ newest
  none_newer number newest low is = newest_later (i + 1) number (delivered_dets scope.run.past) d i newest (omega (arith, low)) own is

  -- none is older than the oldest
  pub none_older : (number : ℕ) → number_of number (delivered_dets scope.run.past) d ≡ None → number ≤ i
  none_older number is = grind (arith, newest_there, own)

-- one number is that of one determinant
pub one_determinant : (scope : SearchScope) (d e : Det) (i : ℕ) → IsNewest scope d i → number_of (i + 1) (delivered_dets scope.run.past) e ≡ Some i → d ≡ e
one_determinant scope d e i newest own = same_is d e (numbers_apart (i + 1) (delivered_dets scope.run.past) d e i (number_of_found (delivery_count scope) (delivered_dets scope.run.past) d i newest) own)

-- ==== deliveries that are listed or have no orphan

-- nothing more is listed
pub no_more : (scope : SearchScope) (listed : List OpenDelivery) → HasMore scope listed listed
no_more scope listed = record { followed = λ so_far. so_far; listed = λ k told. told }

-- with one more delivery listed, the earlier ones remain listed
module _ (scope : SearchScope) (before : List OpenDelivery) (delivery : OpenDelivery) where
  still_told : (k : ℕ) → IsListedOrSafe scope before k → IsListedOrSafe scope (before ++ delivery ∷ []) k
  still_told k (inl among) = inl (subst (λ list. Contains list k) (sym (map-append position before (delivery ∷ []))) (Contains-append_left (positions_of before) (delivery.position ∷ []) k among))
  still_told k (inr none) = inr none

  -- and it is listed
  pub newly_told : IsListedOrSafe scope (before ++ delivery ∷ []) delivery.position
  newly_told = inl (subst (λ list. Contains list delivery.position) (sym (map-append position before (delivery ∷ []))) (Contains-push (positions_of before) delivery.position))

  pub one_more_listed : IsDeliveryAt scope.run.past delivery.position → IsOpenDelivery scope.run scope.f scope.end delivery → HasMore scope before (before ++ delivery ∷ [])
  one_more_listed made later = record {
    followed = λ so_far. record {
      within = so_far.within;
      deliveries = All-push (λ (x : OpenDelivery). IsDeliveryAt scope.run.past x.position) before delivery so_far.deliveries made;
      none_later = All-push (IsOpenDelivery scope.run scope.f scope.end) before delivery so_far.none_later later;
    };
    listed = still_told;
  }

-- the part of one more number
pub one_more_number : (scope : SearchScope) (number to : ℕ) (before after : List OpenDelivery) → HasMore scope before after → ((d : Det) → IsNewest scope d number → AreListedOrSafe scope after d) → AreOpenBetween scope (number + 1) to before → AreOpenBetween scope number to after
one_more_number scope number to before after more told was = record {
  followed = more.followed was.followed;
  all = λ k i d early at newest low high. grind (arith, cases_lt number i, more.listed k, was.all k i d early at newest, told d);
}

-- the deliveries of both
pub both_followed : (scope : SearchScope) (a b : List OpenDelivery) → AreFollowed scope a → AreFollowed scope b → AreFollowed scope (a ++ b)
both_followed scope a b first second = record {
  within = first.within;
  deliveries = All-append (λ (x : OpenDelivery). IsDeliveryAt scope.run.past x.position) a b first.deliveries second.deliveries;
  none_later = All-append (IsOpenDelivery scope.run scope.f scope.end) a b first.none_later second.none_later;
}

-- two parts of a search
pub parts_joined : (scope : SearchScope) (from mid to : ℕ) (later earlier : List ℕ) → IncludeUnsafe scope mid to later → IncludeUnsafe scope from mid earlier → IncludeUnsafe scope from to (later ++ earlier)
parts_joined scope from mid to later earlier second first k i d early at newest low high = grind (arith, Contains-append_left, Contains-append_right)

-- the whole search
pub all_told : (scope : SearchScope) (candidates : List OpenDelivery) → AreLegalEntries scope.run.processes scope.run.past → AreFollowed scope candidates → IncludeUnsafe scope 0 (delivery_count scope) (positions_of candidates) → AreAllOpen scope candidates
all_told scope candidates formed followed told = grind (arith, has_newest)

-- deliveries after the end have no orphan by the end
pub any_other : (scope : SearchScope) (candidates : List OpenDelivery) → AreAllOpen scope candidates → (k : ℕ) (d : Det) → det_at scope.run.past k ≡ Some d → IsListedOrSafe scope candidates k
any_other scope candidates gathered k d at =
    elim (cases_lt k scope.end) [
      | inl h ↦ gathered.all k h (d, at)
      | inr h ↦ inr (λ t in_time has. grind (arith, gathered.followed.within, instant_length scope.run.past t, not_yet scope.run.processes scope.f (instant scope.run.past t) k, has))
    ]

-- the order of the listed deliveries does not matter
pub in_any_order : (scope : SearchScope) (candidates sorted : List OpenDelivery) → IsPermutation candidates sorted → AreAllOpen scope candidates → AreAllOpen scope sorted
in_any_order scope candidates sorted moved all =
    let places : IsPermutation (positions_of candidates) (positions_of sorted) = IsPermutation-map position candidates sorted moved in
    record {
      followed = record {
        within = all.followed.within;
        deliveries = All-permutation (λ (x : OpenDelivery). IsDeliveryAt scope.run.past x.position) candidates sorted moved all.followed.deliveries;
        none_later = All-permutation (IsOpenDelivery scope.run scope.f scope.end) candidates sorted moved all.followed.none_later;
      };
      all = λ k early made. grind (arith, all.all k early made, Contains-permutation (positions_of candidates) (positions_of sorted) k places);
    }
