-- Each place of a lane has an event, so the number of a lane's first events that reach an event is unique, and is the
-- number of the lane's events that reach it.
use Rattle.std.specs.Prelude.{None, ◌≡◌, ℕ, ◌+◌, ◌<◌, ◌≤◌, min, ◌↔◌, ◌==◌, ◌&&◌, if◌then◌else◌, Bool, true, List, [], ◌∷◌, length, take, count_by}
use Rattle.std.proofs.Common.{zero, suc, refl, arith, ap, sym, ◌∙◌, inl, inr}
use Rattle.std.specs.List.{range_with_len}
use Rattle.std.proofs.Math.Seq.{take-suc, take-length}
use Rattle.std.proofs.lemmas.Bool.{eqb-true}
use Rattle.std.proofs.lemmas.Bool.Decides.{eqb_tells}
use Rattle.std.proofs.lemmas.List.{map-id}
use Rattle.std.proofs.lemmas.List.FromFn.{sum_by-map-range_with_len_more}
use Rattle.std.proofs.lemmas.List.Sums.{sum_by-append}
use Rattle.causal_clock.specs.declared.Event.{Event}
use Rattle.causal_clock.specs.Timeline.{lane_of, lane_length, lane_place}
use Rattle.causal_clock.specs.Precedence.{FirstReach, IsReachTest, count_in_lane}
use Rattle.causal_clock.proofs.Chains.{lane_length-more}

lane_length-first : (e : Event) (es : List Event) (lane : ℕ) → lane_length (e ∷ es) lane ≡ (if e.lane == lane then 1 else 0) + lane_length es lane
lane_length-first e es lane = sum_by-append _ (e ∷ []) es ∙ ap (λ n. n + lane_length es lane) (omega arith)

lane_place-suc : (e : Event) (es : List Event) (i : ℕ) → lane_place (e ∷ es) (suc i) ≡ (if e.lane == lane_of es i then 1 else 0) + lane_place es i
lane_place-suc e es i = lane_length-first e (take i es) (lane_of es i)

-- the n-th event of a lane is event i
pub record IsAtPlace (es : List Event) (lane n i : ℕ) : Type 0 where
  -- the event exists
  pub within : i < length es
  -- it is in the lane
  pub of_lane : lane_of es i ≡ lane
  -- n events of the lane precede it
  pub place : lane_place es i ≡ n

first_or_later : (e : Event) (es : List Event) (lane n : ℕ) → e.lane ≡ lane → n < lane_length (e ∷ es) lane → ((m : ℕ) → m < lane_length es lane → (i : ℕ) × IsAtPlace es lane m i) → (i : ℕ) × IsAtPlace (e ∷ es) lane n i
first_or_later e es lane zero same h rest = (0, record { within = omega arith; of_lane = same; place = refl })
first_or_later e es lane (suc n) same h rest =
    let later = rest n (grind (arith, lane_length-first e es lane)) in
    (suc later.0, grind (arith, lane_place-suc e es later.0, later.1))

-- a lane has an event at each place below its length
pub event_at_place : (es : List Event) (lane n : ℕ) → n < lane_length es lane → (i : ℕ) × IsAtPlace es lane n i
event_at_place [] lane n h = absurd (omega arith)
event_at_place (e ∷ es) lane n h =
    elim (eqb_tells e.lane lane) [
      | inl here ↦ first_or_later e es lane n here.1 h (event_at_place es lane)
      | inr other ↦
          let later = event_at_place es lane n (grind (arith, lane_length-first e es lane)) in
          (suc later.0, grind (arith, lane_place-suc e es later.0, later.1))
    ]

no_greater : (es : List Event) (j lane n m : ℕ) → FirstReach es j lane n → FirstReach es j lane m → n ≤ m
no_greater es j lane n m f g = grind (arith, event_at_place es lane m, f.first, g.first)

-- only one number can be the number of a lane's first events that reach j
pub reach_unique : (es : List Event) (j lane n m : ℕ) → FirstReach es j lane n → FirstReach es j lane m → n ≡ m
reach_unique es j lane n m f g = omega (arith, no_greater es j lane n m f g, no_greater es j lane m n g f)

count_more : (p : ℕ → Bool) (n : ℕ) → count_by p (range_with_len 0 (suc n)) ≡ count_by p (range_with_len 0 n) + (if p n then 1 else 0)
count_more p n =
    let next = sum_by-map-range_with_len_more (λ k. if p k then 1 else 0) (λ k. k) 0 n n (omega arith) in
    ap (λ k. count_by p (range_with_len 0 k)) (let same : suc n ≡ n + 1 = omega arith in same) ∙ (simp map-id at next)

lane_length-next : (es : List Event) (m lane : ℕ) → m < length es → lane_length (take (suc m) es) lane ≡ lane_length (take m es) lane + (if lane_of es m == lane then 1 else 0)
lane_length-next es m lane h = ap (λ xs. lane_length xs lane) (take-suc es m (record { lane = 0; send = None }) h) ∙ lane_length-more (take m es) _ lane

counted_next : (b t : Bool) (n place x y : ℕ) → (b ≡ true → (t ≡ true) ↔ (place < n)) → (b ≡ true → place ≡ y) → x ≡ min n y → x + (if b && t then 1 else 0) ≡ min n (y + (if b then 1 else 0))
counted_next b t n place x y tells is before = grind arith

module _ (es : List Event) (j lane n : ℕ) (test : ℕ → Bool) (f : FirstReach es j lane n) (tells : IsReachTest es j test) where
  of_lane : (m : ℕ) → m < length es → lane_of es m ≡ lane → (test m ≡ true) ↔ (lane_place es m < n)
  of_lane m h same = (λ t. (f.first m h same).0 ((tells m h).0 t), λ lt. (tells m h).1 ((f.first m h same).1 lt))

  counted_below : (m : ℕ) → m ≤ length es → count_by (λ i. lane_of es i == lane && test i) (range_with_len 0 m) ≡ min n (lane_length (take m es) lane)
  counted_below zero h = omega arith
  counted_below (suc m) h =
      let before = counted_below m (omega (arith, h)) in
      let next = lane_length-next es m lane (omega (arith, h)) in
      let same = eqb-true (lane_of es m) lane in
      count_more (λ i. lane_of es i == lane && test i) m
      ∙ counted_next (lane_of es m == lane) (test m) n (lane_place es m) _ _ (λ own. of_lane m (omega (arith, h)) (same own)) (λ own. ap (lane_length (take m es)) (same own)) before
      ∙ ap (min n) (sym next)

  -- if exactly a lane's first n events reach j, n of them pass a test for reaching j
  pub reach_counted : count_in_lane es lane test ≡ n
  reach_counted = grind (arith, take-length, counted_below)
