-- How one more event changes which events reach which.
use Rattle.std.specs.Prelude.{◌≡◌, ◌≢◌, ℕ, ◌+◌, ◌<◌, ◌≤◌, max, ◌↔◌, ◌⊎◌, ◌==◌, if◌then◌else◌, Option, Some, List, [], ◌∷◌, ◌++◌, length}
use Rattle.std.proofs.Common.{refl, arith, ap, ◌∙◌, inl, length-append}
use Rattle.std.proofs.Math.ListN.{get_or-append}
use Rattle.std.proofs.Math.Seq.{get_or-append_seam, take-append_seam}
use Rattle.std.proofs.lemmas.List.{take-append-le}
use Rattle.std.proofs.lemmas.List.Sums.{sum_by-append}
use Rattle.causal_clock.specs.declared.Event.{Event}
use Rattle.causal_clock.specs.Timeline.{lane_of, sending_event, lane_length, lane_place}
use Rattle.causal_clock.specs.Precedence.{DirectlyPrecedes, Precedes, itself, onward, IsReachedThrough, FirstReach}
use Rattle.causal_clock.specs.Inside.EventCounts.{LastOf}

-- ---- a list with one more event

-- the lane of an older event is unchanged
pub lane_of-old : (es : List Event) (e : Event) (i : ℕ) → i < length es → lane_of (es ++ e ∷ []) i ≡ lane_of es i
lane_of-old es e i h = ap (λ (x : Event). x.lane) (get_or-append es (e ∷ []) _ i h)

pub send_of-old : (es : List Event) (e : Event) (i : ℕ) → i < length es → sending_event (es ++ e ∷ []) i ≡ sending_event es i
send_of-old es e i h = ap (λ (x : Event). x.send) (get_or-append es (e ∷ []) _ i h)

-- the lane at the newest index is the newest event's
pub lane_of-new : (es : List Event) (e : Event) (i : ℕ) → i ≡ length es → lane_of (es ++ e ∷ []) i ≡ e.lane
lane_of-new es e i is = ap (lane_of (es ++ e ∷ [])) is ∙ ap (λ (x : Event). x.lane) (get_or-append_seam es e [] _)

pub send_of-new : (es : List Event) (e : Event) → sending_event (es ++ e ∷ []) (length es) ≡ e.send
send_of-new es e = ap (λ (x : Event). x.send) (get_or-append_seam es e [] _)

-- one more event makes the list longer by one
pub length-more : (es : List Event) (e : Event) → length (es ++ e ∷ []) ≡ length es + 1
length-more es e = length-append es (e ∷ [])

-- ---- chains

-- an event reaches only existing events, and none before it
pub reaches_forward : {es : List Event} {i j : ℕ} → Precedes es i j → (i ≤ j) × (j < length es)
reaches_forward (itself h) = (omega arith, h)
reaches_forward (onward c d) = let before = reaches_forward c in (omega (arith, d.earlier), d.within)

-- reachability is transitive
pub reaches_through : {es : List Event} {i j k : ℕ} → Precedes es i j → Precedes es j k → Precedes es i k
reaches_through c (itself h) = c
reaches_through c (onward b d) = onward (reaches_through c b) d

pub precedes_old : (es : List Event) (e : Event) (i j : ℕ) → DirectlyPrecedes es i j → DirectlyPrecedes (es ++ e ∷ []) i j
precedes_old es e i j d = grind (arith, length-more, lane_of-old, send_of-old)

pub precedes_back : (es : List Event) (e : Event) (i j : ℕ) → j < length es → DirectlyPrecedes (es ++ e ∷ []) i j → DirectlyPrecedes es i j
precedes_back es e i j h d = grind (arith, lane_of-old, send_of-old)

-- one more event keeps each chain
pub reaches_old : {es : List Event} (e : Event) {i j : ℕ} → Precedes es i j → Precedes (es ++ e ∷ []) i j
reaches_old {es} e (itself h) = itself (omega (arith, length-more es e))
reaches_old {es} e (onward {j = j} {k = k} c d) = onward (reaches_old e c) (precedes_old es e j k d)

-- what reaches an older event reached it before the newest event was added
pub reaches_back : (es : List Event) (e : Event) {i j : ℕ} → j < length es → Precedes (es ++ e ∷ []) i j → Precedes es i j
reaches_back es e below (itself h) = itself below
reaches_back es e below (onward {j = j} {k = k} c d) =
    onward (reaches_back es e (omega (arith, d.earlier)) c) (precedes_back es e j k below d)

-- a chain to the newest event is that event alone, or a chain to one that directly precedes it
pub reaches_new : (es : List Event) (e : Event) {i k : ℕ} → k ≡ length es → Precedes (es ++ e ∷ []) i k → (i ≡ k) ⊎ ((j : ℕ) × Precedes es i j × ((lane_of es j ≡ e.lane) ⊎ (e.send ≡ Some j)))
reaches_new es e is (itself h) = inl refl
reaches_new es e is (onward {j = j} {k = k} c d) = grind (arith, reaches_back, lane_of-old, lane_of-new, send_of-new)

-- the newest event is reached from itself
pub reaches_itself : (es : List Event) (e : Event) (i : ℕ) → i ≡ length es → Precedes (es ++ e ∷ []) i (length es)
reaches_itself es e i is = rw is (itself {i = length es} (omega (arith, length-more es e)))

-- the newest event is reached from what reaches an event of its lane or its send
pub reaches_into : (es : List Event) (e : Event) (i j : ℕ) → Precedes es i j → (lane_of es j ≡ e.lane) ⊎ (e.send ≡ Some j) → Precedes (es ++ e ∷ []) i (length es)
reaches_into es e i j c because = onward (reaches_old e c) (grind (arith, reaches_forward c, length-more, lane_of-old, lane_of-new, send_of-new))

-- older events are reached from the same events as before
pub older : (es : List Event) (e : Event) (i j : ℕ) → j < length es → Precedes (es ++ e ∷ []) i j ↔ Precedes es i j
older es e i j below = (reaches_back es e below, reaches_old e)

-- the newest event is reached from itself, and from what reaches an event of its lane or its send
pub newest : (es : List Event) (e : Event) (i : ℕ) → Precedes (es ++ e ∷ []) i (length es) ↔ IsReachedThrough es e i
newest es e i = (reaches_new es e refl, λ r. grind (arith, reaches_itself, reaches_into))

-- ---- places

-- one more event makes its lane longer by one, and no other lane
pub lane_length-more : (es : List Event) (e : Event) (lane : ℕ) → lane_length (es ++ e ∷ []) lane ≡ lane_length es lane + (if e.lane == lane then 1 else 0)
lane_length-more es e lane = sum_by-append _ es (e ∷ []) ∙ omega arith

-- the place of an older event in its lane is unchanged
pub lane_place-old : (es : List Event) (e : Event) (i : ℕ) → i < length es → lane_place (es ++ e ∷ []) i ≡ lane_place es i
lane_place-old es e i h = grind (arith, take-append-le, lane_of-old)

-- the newest event's place is the number of events that its lane had
pub lane_place-new : (es : List Event) (e : Event) (i : ℕ) → i ≡ length es → lane_place (es ++ e ∷ []) i ≡ lane_length es e.lane
lane_place-new es e i is = ap (lane_place (es ++ e ∷ [])) is ∙ (λ k. lane_length (take-append_seam es (e ∷ []) k) (lane_of-new es e _ refl k))

-- each event is an older one or the newest
pub old_or_new : (es : List Event) (e : Event) (i : ℕ) → i < length (es ++ e ∷ []) → (i < length es) ⊎ (i ≡ length es)
old_or_new es e i h = grind (arith, length-more)

-- ---- an older event is reached from the same events

-- an older event is reached by equally many of a lane's first events
pub first_old : (es : List Event) (e : Event) (j lane n : ℕ) → j < length es → FirstReach es j lane n → FirstReach (es ++ e ∷ []) j lane n
first_old es e j lane n below f =
    let own : e.lane ≡ lane → lane_length es e.lane ≡ lane_length es lane = λ same. ap (lane_length es) same in
    grind (arith, own, lane_length-more es e lane, old_or_new es e, lane_of-old, lane_place-old, lane_place-new, lane_of-new, reaches_back es e, reaches_old {es = es} e, reaches_forward)

-- ---- the newest event

-- exactly the first n of a lane's events reach the event, if there is one
pub record FirstReachSome (es : List Event) (event : Option ℕ) (lane n : ℕ) : Type 0 where
  -- the lane has n events or more
  pub no_more : n ≤ lane_length es lane
  -- there is an event, and the first n reach it
  pub back : (i : ℕ) → i < length es → lane_of es i ≡ lane → lane_place es i < n → (j : ℕ) × (event ≡ Some j) × Precedes es i j
  -- only the first n reach it
  pub forth : (i j : ℕ) → i < length es → lane_of es i ≡ lane → event ≡ Some j → Precedes es i j → lane_place es i < n

module _ (es : List Event) (e : Event) (previous : Option ℕ) (last : LastOf es previous e.lane) (from_previous from_send lane : ℕ) (along : FirstReachSome es previous lane from_previous) (across : FirstReachSome es e.send lane from_send) where
  reaches_it : (i : ℕ) → i < length es → lane_of es i ≡ lane → (lane_place es i < from_previous) ⊎ (lane_place es i < from_send) → Precedes (es ++ e ∷ []) i (length es)
  reaches_it i lt of_lane h = grind (arith, along.back, across.back, last.inside, reaches_into)

  counted : (i : ℕ) → i < length es → lane_of es i ≡ lane → Precedes (es ++ e ∷ []) i (length es) → lane_place es i < max from_previous from_send
  counted i lt of_lane c = grind (arith, reaches_new, reaches_forward, reaches_through)

  -- for another lane: the greater of the two counts
  pub first_new_other : lane ≢ e.lane → FirstReach (es ++ e ∷ []) (length es) lane (max from_previous from_send)
  first_new_other other = grind (arith, lane_length-more es e lane, old_or_new, lane_place-old, lane_of-old, counted, reaches_it, lane_of-new)

  -- for the event's lane: one more
  pub first_new_own : lane ≡ e.lane → lane_length es lane ≤ from_previous → FirstReach (es ++ e ∷ []) (length es) lane (lane_length es lane + 1)
  first_new_own own full =
      let older : (i : ℕ) → i < length es → lane_of es i ≡ lane → lane_place es i < from_previous = λ i lt of_lane. let up = last.reached i lt (of_lane ∙ own) in along.forth i up.0 lt of_lane up.1 up.2 in
      let same = ap (lane_length es) own in
      grind (arith, older, reaches_itself, same, lane_length-more es e lane, old_or_new, lane_place-old, lane_of-old, lane_place-new, counted, reaches_it, along.no_more, across.no_more)
