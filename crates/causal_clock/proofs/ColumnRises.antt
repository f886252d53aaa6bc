-- The rises of a clock's columns: each is at a receive, and one more event raises its lane's columns to its send's counts.
use Rattle.std.proofs.lemmas.Grind.{common_steps}
use Rattle.std.specs.Prelude.{◌≡◌, ◌≢◌, ℕ, ◌+◌, ◌-◌, ◌<◌, ◌≤◌, max, ◌==◌, if◌then◌else◌, Option, Some, None, List, [], ◌∷◌, ◌++◌, length}
use Rattle.std.proofs.Common.{refl, arith, ap, sym, ◌∙◌, get_or, get_or-set_same, get_or-set_other, eq-eqb, inl, inr}
use Rattle.std.proofs.Math.ListN.{get_or-append, set, length-set}
use Rattle.std.proofs.Math.Seq.{get_or-append_seam}
use Rattle.std.proofs.lemmas.Bool.Decides.{eqb_tells}
use Rattle.causal_clock.specs.declared.Event.{Event}
use Rattle.causal_clock.specs.declared.Rise.{Rise}
use Rattle.causal_clock.specs.Timeline.{lane_of, lane_length, lane_place, sending_event}
use Rattle.causal_clock.specs.Precedence.{Precedes, itself, onward, FirstReach}
use Rattle.causal_clock.specs.Rises.{rise_at, count_at, RisesStrictly, AreRises, IsReceiveAt}
use Rattle.causal_clock.specs.Inside.Columns.{column_after, IsColumn}
use Rattle.causal_clock.specs.Inside.EventCounts.{LastOf, count_or_none}
use Rattle.causal_clock.specs.Inside.Fields.{counts_in, ColumnsAreRight}
use Rattle.causal_clock.proofs.Chains.{reaches_forward, lane_of-old, lane_of-new, lane_length-more, lane_place-old, lane_place-new, old_or_new}
use Rattle.causal_clock.proofs.Columns.{count_of_none, settled, raised_before, raised_there, raised_column}
use Rattle.causal_clock.proofs.Lemmas.RiseCounts.{rise_counts, count_risen}
use Rattle.causal_clock.proofs.Places.{event_at_place}
use Rattle.causal_clock.proofs.Steps.{keeps_event}

-- an event's count of its lane is its place plus one
pub counts_own : (es : List Event) (column : ℕ → ℕ → List Rise) (j lane : ℕ) → lane_of es j ≡ lane → counts_in es column j lane ≡ lane_place es j + 1
counts_own es column j lane same = ap (λ b. if b then lane_place es j + 1 else count_at (column (lane_of es j) lane) (lane_place es j)) (eq-eqb (lane_of es j) lane same)

-- an event's count of another lane is the column's count at its place
pub counts_other : (es : List Event) (column : ℕ → ℕ → List Rise) (j lane source : ℕ) → lane_of es j ≡ lane → source ≢ lane → counts_in es column j source ≡ count_at (column lane source) (lane_place es j)
counts_other es column j lane source same other = grind arith

-- the counts to which an event raises its lane's columns: those of its send, and 0 for its lane
abbrev pub risen_to : List Event → (ℕ → ℕ → List Rise) → Event → ℕ → ℕ
risen_to es column e source = if source == e.lane then 0 else count_or_none (counts_in es column) e.send source

-- before a rise, the count is less
fewer : (rises : List Rise) → RisesStrictly rises → (i place : ℕ) → i < length rises → place < (rise_at rises i).place → count_at rises place < (rise_at rises i).count
fewer rises strictly i place within before = grind (arith, count_risen)

module _ (es : List Event) (places lengths : List ℕ) (column : ℕ → ℕ → List Rise) (k : ColumnsAreRight es places lengths column) where
  -- an event's place is within its lane
  in_lane : (j : ℕ) → j < length es → lane_place es j < lane_length es (lane_of es j)
  in_lane j lt = omega (arith, k.keeps.own j lt, (k.keeps.reach j lt (lane_of es j)).no_more)

  -- the count of a lane's last event is the column's count at the next place
  previous_count : (lane source : ℕ) (event : Option ℕ) → LastOf es event lane → source ≢ lane → count_or_none (counts_in es column) event source ≡ count_at (column lane source) (lane_length es lane)
  previous_count lane source None last other = sym (count_of_none (column lane source) _ (λ i lt. absurd (omega (arith, last.empty refl, (k.columns lane source).places i lt))))
  previous_count lane source (Some p) last other = grind (arith, settled)

  module _ (e : Event) (inside : e.lane < length lengths) (sent : (s : ℕ) → e.send ≡ Some s → s < length es) (room : length es < 16777216) (column' : ℕ → ℕ → List Rise) (others : (lane source : ℕ) → lane ≢ e.lane → column' lane source ≡ column lane source) (risen : (source : ℕ) → column' e.lane source ≡ column_after (column e.lane source) (lane_length es e.lane) (risen_to es column e source)) where
    at_old_place : (lane source q : ℕ) → q < lane_length es lane → count_at (column' lane source) q ≡ count_at (column lane source) q
    at_old_place lane source q lt =
        elim (eqb_tells lane e.lane) [
          | inl s ↦ rw (s.1, risen source) (raised_before (column e.lane source) (lane_length es e.lane) (risen_to es column e source) q (rw s.1 at lt))
          | inr s ↦ ap (λ c. count_at c q) (others lane source s.1)
        ]

    old_count : (j : ℕ) → j < length es → (source : ℕ) → counts_in (es ++ e ∷ []) column' j source ≡ counts_in es column j source
    old_count j lt source = grind (arith, lane_of-old, lane_place-old, at_old_place (lane_of es j) source (lane_place es j) (in_lane j lt))

    new_lane : lane_of (es ++ e ∷ []) (length es) ≡ e.lane
    new_lane = lane_of-new es e (length es) refl

    new_place : lane_place (es ++ e ∷ []) (length es) ≡ lane_length es e.lane
    new_place = lane_place-new es e (length es) refl

    own_count : counts_in (es ++ e ∷ []) column' (length es) e.lane ≡ lane_length es e.lane + 1
    own_count = counts_own (es ++ e ∷ []) column' (length es) e.lane new_lane ∙ ap (λ n. n + 1) new_place

    new_count : (source : ℕ) → source ≢ e.lane → counts_in (es ++ e ∷ []) column' (length es) source ≡ max (count_or_none (counts_in es column) (k.keeps.last e.lane).0 source) (count_or_none (counts_in es column) e.send source)
    new_count source other = grind (arith, counts_other, new_lane, new_place, raised_there, previous_count)

    longer : (lane : ℕ) → lane_length es lane ≤ lane_length (es ++ e ∷ []) lane
    longer lane = omega (arith, lane_length-more es e lane)

    few_from : (source : ℕ) → risen_to es column e source ≤ lane_length es source
    few_from source = grind arith

    risen_column : (source : ℕ) → IsColumn (column' e.lane source) (lane_length (es ++ e ∷ []) e.lane) (lane_length (es ++ e ∷ []) source)
    risen_column source =
        let more : lane_length (es ++ e ∷ []) e.lane ≡ lane_length es e.lane + 1 = grind (arith, lane_length-more es e e.lane) in
        rw (risen source, more) (raised_column (column e.lane source) (lane_length es e.lane) (lane_length es source) _ (risen_to es column e source) (longer source) (omega (arith, few_from source, longer source)) (k.columns e.lane source))

    next_columns : (lane source : ℕ) → IsColumn (column' lane source) (lane_length (es ++ e ∷ []) lane) (lane_length (es ++ e ∷ []) source)
    next_columns lane source = grind (arith, eqb_tells lane e.lane, risen_column source, longer lane, longer source)

    next_places : length places ≡ length es → (j : ℕ) → j < length (es ++ e ∷ []) → get_or (places ++ lane_length es e.lane ∷ []) j 0 ≡ lane_place (es ++ e ∷ []) j
    next_places long j lt = grind (arith, old_or_new, get_or-append, lane_place-old, get_or-append_seam places, lane_place-new)

    next_lengths : (lane : ℕ) → lane < length (set lengths e.lane (lane_length es e.lane + 1)) → get_or (set lengths e.lane (lane_length es e.lane + 1)) lane 0 ≡ lane_length (es ++ e ∷ []) lane
    next_lengths lane lt = grind (arith, common_steps, eqb_tells, set, get_or-set_same, lane_length-more, get_or-set_other, length-set)

    -- after one more event, the raised columns have all counts
    pub keeps_next : length places ≡ length es → ColumnsAreRight (es ++ e ∷ []) (places ++ lane_length es e.lane ∷ []) (set lengths e.lane (lane_length es e.lane + 1)) column'
    keeps_next long = record {
      keeps = rw (length-set lengths e.lane (lane_length es e.lane + 1)) (keeps_event es (counts_in es column) (length lengths) k.keeps e inside sent room (counts_in (es ++ e ∷ []) column') old_count own_count new_count);
      places = next_places long;
      lengths = next_lengths;
      columns = next_columns;
    }

  -- an earlier event of a lane has a smaller place
  lower : (i j : ℕ) → i < j → j < length es → lane_of es i ≡ lane_of es j → lane_place es i < lane_place es j
  lower i j before within same = grind (arith, reaches_forward, k.keeps)

  module _ (lane source : ℕ) (apart : source ≢ lane) where
    told : (j : ℕ) → j < length es → lane_of es j ≡ lane → FirstReach es j source (count_at (column lane source) (lane_place es j))
    told j within of_lane = rw (← counts_other es column j lane source of_lane apart) (k.keeps.reach j within source)

    module _ (i : ℕ) (within : i < length (column lane source)) where
      -- events that newly reach a lane do so by a send
      by_a_send : {m j : ℕ} → Precedes es m j → lane_of es m ≡ source → lane_place es m ≡ (rise_at (column lane source) i).count - 1 → lane_of es j ≡ lane → lane_place es j ≡ (rise_at (column lane source) i).place → sending_event es j ≢ None
      by_a_send (itself h) from place of_lane placed none = absurd (apart (sym from ∙ of_lane))
      by_a_send {m} (onward {j = l} {k = j} before step) from place of_lane placed none = grind (arith, reaches_forward, lower, fewer, told, k.columns lane source)

      received : (j : ℕ) × IsReceiveAt es lane (rise_at (column lane source) i).place j
      received =
          let is = k.columns lane source in
          let here = event_at_place es lane (rise_at (column lane source) i).place (is.places i within) in
          let last = event_at_place es source ((rise_at (column lane source) i).count - 1) (omega (arith, is.counts i within, is.strictly.some i within)) in
          (here.0, grind (arith, here.1, last.1, told here.0, by_a_send, is.strictly.some i within, rise_counts (column lane source) (lane_place es here.0) i within))

    -- the column of another lane has exactly the rises of the lane by it
    pub rises_are : AreRises es lane source (column lane source)
    rises_are = record { strictly = (k.columns lane source).strictly; received = received; told = told }
