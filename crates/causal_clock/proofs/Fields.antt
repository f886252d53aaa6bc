-- The lists of lanes and places that a clock's entries represent, and the invariant of a clock after each call.
use Rattle.std.specs.Prelude.{◌≡◌, ◌≢◌, ℕ, ◌+◌, ◌<◌, ◌≤◌, ◌==◌, if◌then◌else◌, Option, Some, None, List, [], ◌∷◌, ◌++◌, length, map, slice_index}
use Rattle.std.proofs.Common.{suc, refl, arith, ap, sym, ◌∙◌, subst, get_or, length-append}
use Rattle.std.proofs.Math.ListN.{set, get_or-eq_default, length-set}
use Rattle.std.proofs.lemmas.Bool.Decides.{leb_tells, eqb_tells}
use Rattle.std.proofs.lemmas.List.{get_or-map, length-map, map-append, map-set}
use Rattle.std.proofs.lemmas.List.Sums.{count_by-le-length}
use Rattle.causal_clock.specs.declared.Clocks.TheInside.{Inside}
use Rattle.causal_clock.specs.declared.Event.{Event}
use Rattle.causal_clock.specs.declared.PlacedEvent.{PlacedEvent}
use Rattle.causal_clock.specs.declared.Rise.{Rise}
use Rattle.causal_clock.specs.declared.lane.LaneColumns.{LaneColumns}
use Rattle.causal_clock.specs.Timeline.{lane_of, lane_length, lane_place}
use Rattle.causal_clock.specs.Inside.Columns.{column_in, column_of, column_after, SameOrNoNews}
use Rattle.causal_clock.specs.Inside.EventCounts.{LastOf, CountsAreRight}
use Rattle.causal_clock.specs.Inside.Lanes.{rises_in, SameColumns}
use Rattle.causal_clock.specs.Inside.Fields.{count_at_event, counts_in, ColumnsAreRight, events_of, lane_places, IsClock}
use Rattle.causal_clock.proofs.Lanes.{told_default, told_was, told_same, column_here, column_elsewhere, column_was, columns_same, column_more}
use Rattle.causal_clock.proofs.ColumnRises.{risen_to, keeps_next}

abbrev pub events_in : List PlacedEvent → List Event
events_in entries = map (λ x. x.event) entries

abbrev pub places_in : List PlacedEvent → List ℕ
places_in entries = map (λ x. x.place) entries

-- the lane of an event is what its entry has
pub lane_of_entry : (entries : List PlacedEvent) (j : ℕ) (x : PlacedEvent) → x ≡ get_or entries j x → j < length entries → lane_of (events_in entries) j ≡ x.event.lane
lane_of_entry entries j x is h = ap (λ (e : Event). e.lane) (get_or-map (λ y. y.event) entries j x _ h) ∙ ap (λ (y : PlacedEvent). y.event.lane) (sym is)

-- the place of an event is what its entry has
pub place_of_entry : (entries : List PlacedEvent) (j : ℕ) (x : PlacedEvent) → x ≡ get_or entries j x → j < length entries → slice_index (places_in entries) j ≡ x.place
place_of_entry entries j x is h = get_or-map (λ y. y.place) entries j x 0 h ∙ ap (λ (y : PlacedEvent). y.place) (sym is)

-- the invariant does not depend on how columns are stored
pub keeps_same : (es : List Event) (places lengths : List ℕ) (column column' : ℕ → ℕ → List Rise) → ((lane source : ℕ) → column' lane source ≡ column lane source) → ColumnsAreRight es places lengths column → ColumnsAreRight es places lengths column'
keeps_same es places lengths column column' same k = subst (ColumnsAreRight es places lengths) (λ i lane source. sym (same lane source) i) k

-- a lane that does not exist has no events
pub no_events : (es : List Event) (counts : ℕ → ℕ → ℕ) (lanes lane : ℕ) → CountsAreRight es counts lanes → lanes ≤ lane → (event : Option ℕ) → LastOf es event lane → lane_length es lane ≡ 0
no_events es counts lanes lane k past None last = last.empty refl
no_events es counts lanes lane k past (Some p) last = let at = last.inside p refl in absurd (omega (arith, k.lanes p at.0, at.1, past))

-- one more lane
pub keeps_open : (es : List Event) (places lengths : List ℕ) (column : ℕ → ℕ → List Rise) → ColumnsAreRight es places lengths column → ColumnsAreRight es places (lengths ++ 0 ∷ []) column
keeps_open es places lengths column k = record {
  keeps = rw (length-append lengths (0 ∷ [])) (let more : (i : ℕ) → i < length es → lane_of es i < length lengths + 1 = λ i lt. omega (arith, k.keeps.lanes i lt) in assumption (k.keeps, more));
  places = k.places;
  lengths = λ lane lt.
      grind (arith, told_default lengths 0 0 refl lane, leb_tells (suc lane) (length lengths), k.lengths, get_or-eq_default, no_events es (counts_in es column) (length lengths) lane k.keeps, k.keeps.last lane);
  columns = k.columns;
}

-- an event exists, and its entry has its lane and its place
pub record TellsEvent (a : Inside) (event : ℕ) (entry : PlacedEvent) : Type 0 where
  -- the event exists
  pub inside : event < length (events_of a)
  -- its lane is the entry's
  pub lane : lane_of (events_of a) event ≡ entry.event.lane
  -- its place in the lane is the entry's
  pub place : lane_place (events_of a) event ≡ entry.place
  -- the clock has that lane
  pub there : entry.event.lane < length a.lanes.items
  -- the place is less than the number of events
  pub few : entry.place < length (events_of a)

-- in a clock, each entry has the fields of its event
pub tells_event : (a : Inside) (event : ℕ) (entry : PlacedEvent) → IsClock a → event < length (events_of a) → entry ≡ get_or a.placed_events.items event entry → TellsEvent a event entry
tells_event a event entry clock inside is = grind (arith, lane_of_entry, place_of_entry, length-map, count_by-le-length)

abbrev pub lengths_in : List LaneColumns → List ℕ
lengths_in xs = map (λ x. x.events) xs

abbrev pub columns_in : List LaneColumns → ℕ → ℕ → List Rise
columns_in xs = column_of (map rises_in xs)

-- one more lane
pub keeps_opened : (es : List Event) (places : List ℕ) (xs ys : List LaneColumns) (x : LaneColumns) → ys ≡ xs ++ x ∷ [] → x.events ≡ 0 → rises_in x ≡ [] → ColumnsAreRight es places (lengths_in xs) (columns_in xs) → ColumnsAreRight es places (lengths_in ys) (columns_in ys)
keeps_opened es places xs ys x is events columns k =
    let lengths : lengths_in (xs ++ x ∷ []) ≡ lengths_in xs ++ 0 ∷ [] = map-append (λ (y : LaneColumns). y.events) xs (x ∷ []) ∙ ap (λ (n : ℕ). lengths_in xs ++ n ∷ []) events in
    rw (is, lengths) (keeps_same es places _ (columns_in xs) (columns_in (xs ++ x ∷ [])) (column_more xs x columns) (keeps_open es places (lengths_in xs) (columns_in xs) k))

-- replacing a lane by one with the same columns
pub keeps_unchanged : (es : List Event) (places : List ℕ) (xs : List LaneColumns) (l : ℕ) (x y : LaneColumns) → l < length xs → x ≡ get_or xs l x → y.events ≡ x.events → SameColumns x y → ColumnsAreRight es places (lengths_in xs) (columns_in xs) → ColumnsAreRight es places (lengths_in (set xs l y)) (columns_in (set xs l y))
keeps_unchanged es places xs l x y lt is events same k = grind (arith, told_same, set, columns_same)

-- the count that an entry gives is the event's count
pub told_in : (es : List Event) (column : ℕ → ℕ → List Rise) (send source : ℕ) (entry : PlacedEvent) (columns : List (List Rise)) → lane_of es send ≡ entry.event.lane → lane_place es send ≡ entry.place → column entry.event.lane source ≡ column_in columns source → count_at_event columns entry source ≡ counts_in es column send source
told_in es column send source entry columns lane place is = grind arith

-- counts that are equal, or no greater than the known ones, raise the columns equally
pub alike : (es : List Event) (places lengths : List ℕ) (column : ℕ → ℕ → List Rise) → ColumnsAreRight es places lengths column → (send own : ℕ) → send < length es → (known counts : List ℕ) → length counts ≡ length lengths → get_or counts own 0 ≡ 0 → ((k : ℕ) → k < length lengths → k ≢ own → SameOrNoNews (get_or known k 0) (get_or counts k 0) (counts_in es column send k)) → (source : ℕ) → SameOrNoNews (get_or known source 0) (get_or counts source 0) (if source == own then 0 else counts_in es column send source)
alike es places lengths column k send own lt known counts long none each source =
    let empty = λ (past : length lengths ≤ source). no_events es (counts_in es column) (length lengths) source k.keeps past (k.keeps.last source).0 (k.keeps.last source).1 in
    grind (arith, eqb_tells source own, leb_tells (suc source) (length lengths), each source, empty, get_or-eq_default counts 0, (k.keeps.reach send lt source).no_more)

-- the number of events of a lane that was read
pub read_lane : (a : Inside) (l : ℕ) (x : LaneColumns) → IsClock a → l < length a.lanes.items → x ≡ get_or a.lanes.items l x → (lane_length (events_of a) l ≡ x.events) × (x.events ≤ length (events_of a))
read_lane a l x clock lt is = grind (arith, told_was (λ (y : LaneColumns). y.events) a.lanes.items l x x 0 lt is, clock.keeps.lengths l, length-map, count_by-le-length (λ (e : Event). e.lane == l) (events_of a))

-- one more event
module _ (a : Inside) (clock : IsClock a) (e : Event) (lt : e.lane < length a.lanes.items) (x z : LaneColumns) (is : x ≡ get_or a.lanes.items e.lane x) (sent : (s : ℕ) → e.send ≡ Some s → s < length (events_of a)) (room : length (events_of a) < 16777216) (events : z.events ≡ x.events + 1) (risen : (source : ℕ) → column_in (rises_in z) source ≡ column_after (column_in (rises_in x) source) x.events (risen_to (events_of a) (columns_in a.lanes.items) e source)) where
  abbrev xs : List LaneColumns
  xs = a.lanes.items

  length_is : x.events ≡ lane_length (events_of a) e.lane
  length_is = sym (read_lane a e.lane x clock lt is).0

  all_risen : (source : ℕ) → columns_in (set xs e.lane z) e.lane source ≡ column_after (columns_in xs e.lane source) (lane_length (events_of a) e.lane) (risen_to (events_of a) (columns_in xs) e source)
  all_risen source = column_here xs e.lane x z lt source ∙ risen source ∙ (λ i. column_after (sym (column_was xs e.lane x z lt is source) i) (length_is i) (risen_to (events_of a) (columns_in xs) e source))

  -- after one more event, the fields have all counts, places and columns
  pub next_clock : (b : Inside) → b.placed_events.items ≡ a.placed_events.items ++ record { event = e; place = x.events } ∷ [] → b.lanes.items ≡ set xs e.lane z → b.opened ≡ a.opened → IsClock b
  next_clock b placed replaced opened =
      let places : lane_places b ≡ lane_places a ++ lane_length (events_of a) e.lane ∷ [] = ap places_in placed ∙ map-append (λ (y : PlacedEvent). y.place) a.placed_events.items (record { event = e; place = x.events } ∷ []) ∙ ap (λ (n : ℕ). lane_places a ++ n ∷ []) length_is in
      let lengths : lengths_in (set xs e.lane z) ≡ set (lengths_in xs) e.lane (lane_length (events_of a) e.lane + 1) = map-set (λ (y : LaneColumns). y.events) xs e.lane z ∙ ap (set (lengths_in xs) e.lane) (omega (arith, events, length_is)) in
      record {
        keeps = rw (places, replaced, lengths, placed, map-append (λ (y : PlacedEvent). y.event) a.placed_events.items (record { event = e; place = x.events } ∷ []))
            (keeps_next (events_of a) (lane_places a) (lengths_in xs) (columns_in xs) clock.keeps e (omega (arith, lt, length-map xs (λ (y : LaneColumns). y.events))) sent room (columns_in (set xs e.lane z)) (λ lane source. column_elsewhere xs e.lane x z lt lane source) all_risen
            (omega (arith, length-map a.placed_events.items (λ (y : PlacedEvent). y.place), length-map a.placed_events.items (λ (y : PlacedEvent). y.event))));
        lanes = omega (arith, clock.lanes, ap length replaced, length-set xs e.lane z, opened);
        opened = omega (arith, clock.opened, opened);
      }
