-- The count of a column at a place, what one more rise changes, and the row of a lane's last counts.
use Rattle.std.proofs.lemmas.Grind.{common_steps}
use Rattle.std.specs.Prelude.{◌≡◌, ℕ, ◌+◌, ◌-◌, ◌<◌, ◌≤◌, max, ◌⊎◌, leb, if◌then◌else◌, true, false, List, [], ◌∷◌, ◌++◌, length, drop, slice_index}
use Rattle.std.proofs.Common.{zero, suc, refl, arith, ap, sym, ◌∙◌, get_or, length-append}
use Rattle.std.proofs.Math.ListN.{get_or-append}
use Rattle.std.proofs.Math.Seq.{get_or-append_seam}
use Rattle.std.proofs.lemmas.Bool.{le-leb, lt-ltb, lt-leb, leb-true, leb-false}
use Rattle.std.proofs.lemmas.Bool.Decides.{leb_tells}
use Rattle.std.specs.List.Sorted.{IsPartitionPoint, IsPartitionedBy}
use Rattle.std.proofs.lemmas.List.Sorted.{IsPartitionedBy-leb, IsNonDecreasingBy-from_default}
use Rattle.std.proofs.lemmas.List.{get_or-drop, get_or_default, length-drop}
use Rattle.causal_clock.specs.declared.Rise.{Rise}
use Rattle.causal_clock.specs.Rises.{rise_at, count_at, RisesStrictly}
use Rattle.causal_clock.specs.Inside.Columns.{IsSplitAt, IsColumn, SameOrNoNews, column_after, column_in}
use Rattle.causal_clock.specs.Inside.Row.{RowMatchesColumns}
use Rattle.causal_clock.proofs.Lemmas.RiseCounts.{rise_counts, count_risen}

-- ---- the count at a place

count_at-append : (xs ys : List Rise) (place : ℕ) → count_at (xs ++ ys) place ≡ max (count_at xs place) (count_at ys place)
count_at-append [] ys place = omega arith
count_at-append (x ∷ xs) ys place = omega (arith, count_at-append xs ys place)

-- if no rise is at or before the place, the count is 0
pub count_of_none : (rises : List Rise) (place : ℕ) → ((i : ℕ) → i < length rises → place < (rise_at rises i).place) → count_at rises place ≡ 0
count_of_none rises place later = grind (arith, count_risen)

-- if exactly the first n rises are at or before the place, the last of them has the count
pub count_of_last : (rises : List Rise) (place n : ℕ) → RisesStrictly rises → n < length rises → ((i : ℕ) → i ≤ n → (rise_at rises i).place ≤ place) → ((i : ℕ) → n < i → i < length rises → place < (rise_at rises i).place) → count_at rises place ≡ (rise_at rises n).count
count_of_last rises place n strictly lt before after = grind (arith, rise_counts, count_risen rises place)

-- from a place that no rise follows, the count is constant
pub settled : (rises : List Rise) (p q : ℕ) → ((i : ℕ) → i < length rises → ((rise_at rises i).place ≤ p) × ((rise_at rises i).place ≤ q)) → count_at rises p ≡ count_at rises q
settled [] p q h = refl
settled (r ∷ rises) p q h =
    grind (arith, h 0 (omega arith), le-leb, settled rises p q (λ i lt. h (suc i) (omega (arith, lt))))

-- ---- where a search stops

-- all rises before one that is at or before the place are so too
pub up_to : (rises : List Rise) (place n i : ℕ) → RisesStrictly rises → n < length rises → (rise_at rises n).place ≤ place → i ≤ n → (rise_at rises i).place ≤ place
up_to rises place n i strictly lt le before = grind arith

-- the rises from `start` on have those at or before a place first
pub partitioned : (rises : List Rise) (place start : ℕ) → RisesStrictly rises → IsPartitionedBy (λ y. leb y.place place) (drop start rises)
partitioned rises place start strictly = IsPartitionedBy-leb (λ y. y.place) (drop start rises) place (IsNonDecreasingBy-from_default (λ y. y.place) (drop start rises) _ ascend)
  where
    ascend : (i j : ℕ) → i ≤ j → j < length (drop start rises) → (rise_at (drop start rises) i).place ≤ (rise_at (drop start rises) j).place
    ascend i j le lt = grind (arith, get_or-drop, length-drop)

-- if the tail splits after n rises, the column splits n after `start`
pub parted : (rises : List Rise) (place start n : ℕ) → start ≤ length rises → ((i : ℕ) → i < start → (rise_at rises i).place ≤ place) → IsPartitionPoint (λ y. leb y.place place ≡ true) (λ y. leb y.place place ≡ false) (drop start rises) n → n ≤ length (drop start rises) → IsSplitAt rises place (start + n)
parted rises place start n inside passed point bound = record { inside = omega (arith, bound, long); before = before; after = after }
  where
    long : length (drop start rises) ≡ length rises - start
    long = length-drop start rises

    place_is : (i : ℕ) → start ≤ i → (rise_at (drop start rises) (i - start)).place ≡ (rise_at rises i).place
    place_is i le =
        let at : start + (i - start) ≡ i = omega (arith, le) in
        ap (λ (r : Rise). r.place) (get_or-drop start rises (i - start) _) ∙ ap (λ k. (rise_at rises k).place) at

    before : (i : ℕ) → i < start + n → (rise_at rises i).place ≤ place
    before i lt = grind (arith, leb_tells (suc i) start, passed i, place_is i, leb-true, point.0 (i - start) (record { place = 0; count = 0 }))

    after : (i : ℕ) → start + n ≤ i → i < length rises → place < (rise_at rises i).place
    after i le lt = omega (arith, place_is i (omega (arith, le)), leb-false _ _ (point.1 (i - start) (record { place = 0; count = 0 }) (omega (arith, le)) (omega (arith, lt, long, le))))

-- ---- one more rise

-- a greater count than the one at the place adds a rise
pub raised_more : (rises : List Rise) (place count : ℕ) → count_at rises place < count → column_after rises place count ≡ rises ++ record { place = place; count = count } ∷ []
raised_more rises place count less = ap (λ b. if b then rises ++ record { place = place; count = count } ∷ [] else rises) (lt-ltb _ _ less)

-- counts that are equal, or no greater than the known one, raise a column equally
pub raised_alike : (rises : List Rise) (place known count other : ℕ) → count_at rises place ≡ known → SameOrNoNews known count other → column_after rises place count ≡ column_after rises place other
raised_alike rises place known count other is alike = grind arith

-- at a later place the count is no less
pub count_at-later : (rises : List Rise) (p q : ℕ) → p ≤ q → count_at rises p ≤ count_at rises q
count_at-later [] p q le = omega arith
count_at-later (r ∷ rises) p q le = grind (arith, le-leb, count_at-later rises p q le)

-- before its place, a rise changes no count
pub raised_before : (rises : List Rise) (place count q : ℕ) → q < place → count_at (column_after rises place count) q ≡ count_at rises q
raised_before rises place count q before = grind (arith, lt-leb, count_at-append)

-- at its place, the count is the greater of the two
pub raised_there : (rises : List Rise) (place count : ℕ) → count_at (column_after rises place count) place ≡ max (count_at rises place) count
raised_there rises place count = grind (arith, le-leb, count_at-append)

-- ---- columns

-- a column remains one when its lanes get more events
pub column_more : (rises : List Rise) (events from_events events' from_events' : ℕ) → events ≤ events' → from_events ≤ from_events' → IsColumn rises events from_events → IsColumn rises events' from_events'
column_more rises events from_events events' from_events' le le' is = grind arith

-- rise i counts more than i, as counts are strict and begin at 1
at_least : (rises : List Rise) → RisesStrictly rises → (i : ℕ) → i < length rises → i < (rise_at rises i).count
at_least rises strictly zero lt = strictly.some 0 lt
at_least rises strictly (suc i) lt = omega (arith, at_least rises strictly i (omega (arith, lt)), strictly.counts i (suc i) (omega arith) lt)

-- so a column has no more rises than its last count
no_more_rises : (rises : List Rise) (events from_events place : ℕ) → IsColumn rises events from_events → events ≤ place → length rises ≤ count_at rises place
no_more_rises rises events from_events place is le =
    grind (arith, at_least rises is.strictly (length rises - 1), rise_counts rises place (length rises - 1), is.places (length rises - 1))

module _ (rises : List Rise) (own from_events from_events' count : ℕ) (is : IsColumn rises own from_events) (grown : from_events ≤ from_events') (few : count ≤ from_events') (more : count_at rises own < count) where
  abbrev next : Rise
  next = record { place = own; count = count }

  old_rise : (i : ℕ) → i < length rises → rise_at (rises ++ next ∷ []) i ≡ rise_at rises i
  old_rise i lt = get_or-append rises (next ∷ []) _ i lt

  new_rise : (i : ℕ) → i ≡ length rises → rise_at (rises ++ next ∷ []) i ≡ next
  new_rise i same = ap (rise_at (rises ++ next ∷ [])) same ∙ get_or-append_seam rises next [] _

  old_or_next : (i : ℕ) → i < length (rises ++ next ∷ []) → (i < length rises) ⊎ (i ≡ length rises)
  old_or_next i lt = grind (arith, length-append)

  below_next : (i : ℕ) → i < length rises → (rise_at rises i).count < count
  below_next i lt = omega (arith, more, rise_counts rises own i lt (omega (arith, is.places i lt)))

  -- a column with a rise to a greater count at the lane's next place is a column
  pub appended : IsColumn (rises ++ next ∷ []) (own + 1) from_events'
  appended = record {
    strictly = grind (arith, common_steps, old_or_next, old_rise, new_rise, below_next);
    places = λ i lt. grind (arith, old_or_next i lt, old_rise, new_rise);
    counts = λ i lt. grind (arith, old_or_next i lt, old_rise, new_rise);
    few = omega (arith, length-append rises (next ∷ []), no_more_rises rises own from_events own is (omega arith), more, few);
  }

-- a column after one more event of its lane
pub raised_column : (rises : List Rise) (own from_events from_events' count : ℕ) → from_events ≤ from_events' → count ≤ from_events' → IsColumn rises own from_events → IsColumn (column_after rises own count) (own + 1) from_events'
raised_column rises own from_events from_events' count grown few is =
    grind (arith, appended rises own from_events from_events' count is grown few, column_more rises own from_events (own + 1) from_events')

-- ---- the row of a lane's last counts

-- the row is right for columns with the same counts
pub row_same : (events last : ℕ) (columns columns' : List (List Rise)) (row row' : List ℕ) → ((source : ℕ) → column_in columns' source ≡ column_in columns source) → ((k : ℕ) → slice_index row' k ≡ slice_index row k) → RowMatchesColumns events last columns row → RowMatchesColumns events last columns' row'
row_same events last columns columns' row row' same counts k = grind arith

-- no place has a greater count than the row
pub row_greatest : (events last : ℕ) (columns : List (List Rise)) (row : List ℕ) → RowMatchesColumns events last columns row → (source place : ℕ) → count_at (column_in columns source) place ≤ slice_index row source
row_greatest events last columns row k source place = omega (arith, count_at-later (column_in columns source) place (max place last) (omega arith), k.told source (max place last) (omega arith))

-- the count from one more rise on
pub told_risen : (rises : List Rise) (place count known q : ℕ) → place ≤ q → count_at rises q ≡ known → known < count → count_at (rises ++ record { place = place; count = count } ∷ []) q ≡ count
told_risen rises place count known q le is less = grind (arith, le-leb, count_at-append)

-- reading an element of a list of numbers returns the number there
pub read : (xs : List ℕ) (i x : ℕ) → i < length xs → x ≡ get_or xs i x → get_or xs i 0 ≡ x
read xs i x lt is = sym (get_or_default xs i x 0 lt) ∙ sym is
