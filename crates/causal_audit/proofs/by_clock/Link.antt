-- An entry reaches another in a run exactly if its event precedes the other's in the clock of the run.
use Rattle.causal_audit.proofs.Common.{ℕ, ◌≡◌, ◌<◌, ◌≤◌, inl, inr, List, refl, ◌∙◌, arith, ◌↔◌, Entry, AreLegalEntries, IsEventOf, Delivers, DirectlyPrecedes, in_order, by_message, Reaches, itself, onward, event_below, accepted_forward}
use Rattle.causal_clock.specs.declared.Event.{Event}
use Rattle.causal_clock.specs.Timeline.{lane_of}
use Rattle.causal_clock.specs.Precedence as clock
use Rattle.causal_audit.specs.Inside.ByClock.ClockOfRun.{IsClockOf}
use Rattle.causal_audit.proofs.Legal.{sender_event, receiver_event}
use Rattle.causal_trace.proofs.Lemmas.DependenceSteps.{delivers_below}

-- if an event is reached, so are the later events of its lane
reach_later : (past : List Entry) (i j k p l : ℕ) → Reaches past i j → j ≤ k → IsEventOf past j p l → IsEventOf past k p l → Reaches past i k
reach_later past i j k p l reach up at to =
    let step : j < k → Reaches past i k = λ h. onward reach (in_order p l h at to) in
    grind (arith, step)

module _ (n : ℕ) (past : List Entry) (formed : AreLegalEntries n past) (events : List Event) (stands : IsClockOf past events) where
  clock_direct : (i j : ℕ) → DirectlyPrecedes past i j → clock.DirectlyPrecedes events i j
  clock_direct i j (in_order p l less a b) = grind (arith, event_below past j p l b, stands.count, stands.same_lane i j p p l l a b)
  clock_direct i j (by_message h) = grind (arith, accepted_forward n past formed j i h, delivers_below past j i h, stands.count, stands.receives j i)

  pub in_clock : (i j : ℕ) → Reaches past i j → clock.Precedes events i j
  in_clock i j (itself p l at) = clock.itself (omega (arith, event_below past i p l at, stands.count))
  in_clock i k (onward {j} r d) = clock.onward (in_clock i j r) (clock_direct j k d)

  -- two events of one lane of the clock are of one lane of a process
  pub same_event : (i k p q l m : ℕ) → IsEventOf past i p l → IsEventOf past k q m → lane_of events i ≡ lane_of events k → IsEventOf past i q m
  same_event i k p q l m at to same = grind arith

  pub in_run : {i j : ℕ} → clock.Precedes events i j → (p l : ℕ) → IsEventOf past i p l → (k q m : ℕ) → j ≤ k → IsEventOf past k q m → lane_of events j ≡ lane_of events k → Reaches past i k
  in_run (clock.itself {i = i} h) p l at k q m up to same = reach_later past i i k q m (itself p l at) up (same_event i k p q l m at to same) to
  in_run {i} (clock.onward {j = j} {k = k} reach d) p l at k2 q m up to same =
      elim d.because [
        | inl lanes ↦ in_run reach p l at k2 q m (omega (arith, d.earlier, up)) to (lanes ∙ same)
        | inr sent ↦
            let delivers : Delivers past k j = (stands.receives k j (omega (arith, d.within, stands.count))).0 sent in
            let from = sender_event n past formed k j delivers in
            let into = receiver_event past k j delivers in
            let here : Reaches past i j = in_run reach p l at j from.0 from.1 (omega arith) from.2 refl in
            reach_later past i k k2 q m (onward here (by_message delivers)) up (same_event k k2 into.0 q into.1 m into.2 to same) to
      ]

  -- an event reaches another in the clock exactly if it does in the run
  pub clock_tells : (i j p q l m : ℕ) → IsEventOf past i p l → IsEventOf past j q m → clock.Precedes events i j ↔ Reaches past i j
  clock_tells i j p q l m at to = (λ r. in_run r p l at j q m (omega arith) to refl, in_clock i j)
