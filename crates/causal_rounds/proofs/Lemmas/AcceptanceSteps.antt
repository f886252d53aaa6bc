-- Nothing becomes acceptable except by being sent.
use Rattle.std.proofs.Common.{ℕ, ◌≡◌, ◌≤◌, ◌+◌, inl, inr, Bool, true, false, Some, None, refl, sym, ap, subst, ◌∙◌, arith}
use Rattle.std.proofs.lemmas.Bool.{both_ways, cases_Bool}
use Rattle.std.proofs.lemmas.Bool.Decides.{eqb_tells}
use Rattle.causal_rounds.specs.Rounds.{with_value_at, Round, RecoveryState, number, new_round, with_reply, crash, begin, give_up, answer, refuse, not_up, restart, RoundInvariant}
use Rattle.causal_rounds.specs.Gathered.{Carrier, DetState, MayComplete, DetInvariant, IsInTransitAfter, to_up, to_new, from_up, to_round}
use Rattle.causal_rounds.specs.Acceptance.{IsAcceptable, by_floor, by_sender, by_round, AcceptanceNeedsSending, RestartsMissNothing}
use Rattle.causal_rounds.proofs.Lemmas.RoundSteps.{set_at_cases, some_is, none_some, set_at_here, set_at_away, fewer, number_up, number_down, number_risen, floors_rise}
use Rattle.causal_rounds.proofs.Lemmas.GatheredSteps.{was_open, restarts_gather_all}

module _ (w : RecoveryState) (h : RoundInvariant w) (t : Carrier) (low : t.lane ≤ w.lane t.from) where
  -- p goes down
  module _ (p : ℕ) (up : w.down p ≡ false) where
    abbrev fallen : RecoveryState
    fallen = record w { down = with_value_at w.down p true }

    before_crash : IsAcceptable fallen t → IsAcceptable w t
    before_crash (by_floor is_up floor) = by_floor (fewer w.down p t.to is_up) floor
    before_crash (by_sender down sender lane) = elim (cases_Bool (w.down t.to)) [
      | inl is ↦ by_sender is (fewer w.down p t.from sender) lane
      | inr is ↦ by_floor is (let floor = h.floors_told t.to t.from in let count = number_up w t.from (fewer w.down p t.from sender) in omega (arith, floor, count, lane))
    ]
    before_crash (by_round o down at fitting replied_q view) = by_round o (h.gathering_are_down t.to o at) at (was_open w p up h t.to o at fitting) replied_q view

  before_begin : (s : ℕ) (view : ℕ → ℕ) (absent : ℕ → Bool) → ((q : ℕ) → absent q ≡ true → (w.down q ≡ true) × (w.rounds q ≡ None) × (view q ≡ w.lane q + 1))
      → IsAcceptable (record w { rounds = with_value_at w.rounds s (Some (new_round view absent)) }) t → IsAcceptable w t
  before_begin s view absent gone (by_floor up floor) = by_floor up floor
  before_begin s view absent gone (by_sender down up lane) = by_sender down up lane
  before_begin s view absent gone (by_round o down at fitting replied_q above) = elim (set_at_cases w.rounds s (Some (new_round view absent)) t.to) [
    | inl is ↦
        let same : new_round view absent ≡ o = some_is (new_round view absent) o (sym is.1 ∙ at) in
        let fact = gone t.from (ap (λ (x : Round). x.replied t.from) same ∙ replied_q) in
        let next : o.view t.from ≡ w.lane t.from + 1 = sym (ap (λ (x : Round). x.view t.from) same) ∙ fact.2 in
        absurd (omega (arith, low, above, next))
    | inr other ↦ by_round o down (sym other.1 ∙ at) fitting replied_q above
  ]

  before_end : (s : ℕ) → IsAcceptable (record w { rounds = with_value_at w.rounds s None }) t → IsAcceptable w t
  before_end s (by_floor up floor) = by_floor up floor
  before_end s (by_sender down up lane) = by_sender down up lane
  before_end s (by_round o down at fitting replied_q above) = elim (set_at_cases w.rounds s None t.to) [
    | inl is ↦ absurd (none_some o (sym is.1 ∙ at))
    | inr other ↦ by_round o down (sym other.1 ∙ at) fitting replied_q above
  ]

  -- y answers s, or says that it is not up
  module _ (y s : ℕ) (r : Round) (at : w.rounds s ≡ Some r) (up : Bool) (fits : number w y ≡ r.view y) where
    abbrev told : Round
    told = with_reply r y up

    open_before : MayComplete w s told → MayComplete w s r
    open_before fitting q other no_reply = grind (arith, set_at_cases r.replied y true q, fitting q other, no_reply, fits)

    -- to s, from a process that had replied, or from this one
    to_asker : t.to ≡ s → w.down t.to ≡ true → MayComplete w s told → told.replied t.from ≡ true → r.view t.from ≤ t.lane → IsAcceptable w t
    to_asker is down fitting replied_q above = elim (set_at_cases r.replied y true t.from) [
      | inl me ↦
          let number_here : number w t.from ≡ r.view t.from = subst (λ x. number w x ≡ r.view x) (sym me.0) fits in
          elim (cases_Bool (w.down t.from)) [
            | inl is_down ↦ let count = number_down w t.from is_down in absurd (omega (arith, count, number_here, above, low))
            | inr is_up ↦ let count = number_up w t.from is_up in by_sender down is_up (omega (arith, count, number_here, above, low))
          ]
      | inr old ↦ by_round r down (ap w.rounds is ∙ at) (subst (λ x. MayComplete w x r) (sym is) (open_before fitting)) (sym old.1 ∙ replied_q) above
    ]

    as_round : (p : ℕ) (o : Round) → p ≡ s → told ≡ o → MayComplete w p o → MayComplete w s told
    as_round p o is same fitting = subst (λ (x : Round). MayComplete w s x) (sym same) (subst (λ x. MayComplete w x o) is fitting)

  before_answer : (y s : ℕ) (r : Round) (floors : ℕ → ℕ) → w.down y ≡ false → w.rounds s ≡ Some r → r.view y ≡ w.lane y → ((z : ℕ) → w.floors y z ≤ floors z)
      → IsAcceptable (record w { floors = with_value_at w.floors y floors; rounds = with_value_at w.rounds s (Some (with_reply r y true)) }) t → IsAcceptable w t
  before_answer y s r floors up at fits rise (by_floor is_up floor) = by_floor is_up (let more = floors_rise w y floors rise t.to t.from in omega (arith, floor, more))
  before_answer y s r floors up at fits rise (by_sender down is_up lane) = by_sender down is_up lane
  before_answer y s r floors up at fits rise (by_round o down there fitting replied_q above) = elim (set_at_cases w.rounds s (Some (with_reply r y true)) t.to) [
    | inl is ↦
        let same : with_reply r y true ≡ o = some_is (with_reply r y true) o (sym is.1 ∙ there) in
        to_asker y s r at true (number_up w y up ∙ sym fits) is.0 down (as_round y s r at true (number_up w y up ∙ sym fits) t.to o is.0 same fitting) (ap (λ (x : Round). x.replied t.from) same ∙ replied_q) (subst (λ (x : Round). x.view t.from ≤ t.lane) (sym same) above)
    | inr other ↦ by_round o down (sym other.1 ∙ there) fitting replied_q above
  ]

  before_not_up : (y s : ℕ) (r : Round) → w.down y ≡ true → w.rounds s ≡ Some r → r.view y ≡ w.lane y + 1
      → IsAcceptable (record w { rounds = with_value_at (with_value_at w.rounds s (Some (with_reply r y false))) y None }) t → IsAcceptable w t
  before_not_up y s r is_down at fits (by_floor is_up floor) = by_floor is_up floor
  before_not_up y s r is_down at fits (by_sender down is_up lane) = by_sender down is_up lane
  before_not_up y s r is_down at fits (by_round o down there fitting replied_q above) = elim (set_at_cases (with_value_at w.rounds s (Some (with_reply r y false))) y None t.to) [
    | inl is ↦ absurd (none_some o (sym is.1 ∙ there))
    | inr not_y ↦ elim (set_at_cases w.rounds s (Some (with_reply r y false)) t.to) [
      | inl is ↦
          let same : with_reply r y false ≡ o = some_is (with_reply r y false) o (sym is.1 ∙ sym not_y.1 ∙ there) in
          to_asker y s r at false (number_down w y is_down ∙ sym fits) is.0 down (as_round y s r at false (number_down w y is_down ∙ sym fits) t.to o is.0 same fitting) (ap (λ (x : Round). x.replied t.from) same ∙ replied_q) (subst (λ (x : Round). x.view t.from ≤ t.lane) (sym same) above)
      | inr other ↦ by_round o down (sym other.1 ∙ sym not_y.1 ∙ there) fitting replied_q above
    ]
  ]

  -- s comes up
  module _ (s : ℕ) (r : Round) (at : w.rounds s ≡ Some r) (all : (q : ℕ) → (q ≡ s → ⊥) → r.replied q ≡ true) where
    abbrev risen : RecoveryState
    risen = record { lane = with_value_at w.lane s (w.lane s + 1); down = with_value_at w.down s false; floors = with_value_at w.floors s r.view; rounds = with_value_at w.rounds s None }

    down_s : w.down s ≡ true
    down_s = h.gathering_are_down s r at

    -- nothing was sent by the new lane of s
    not_new : t.from ≡ s → t.lane ≡ with_value_at w.lane s (w.lane s + 1) t.from → ⊥
    not_new is lane = grind (arith, is, lane, low, set_at_cases w.lane s (w.lane s + 1) t.from)

    still_down : (q : ℕ) → with_value_at w.down s false q ≡ true → (q ≡ s → ⊥) × (w.down q ≡ true)
    still_down q is = elim (set_at_cases w.down s false q) [ inl me ↦ absurd (both_ways (with_value_at w.down s false q) me.1 is) | inr other ↦ (other.0, sym other.1 ∙ is) ]

    -- what the new lane of s does not refuse comes from a process that has replied
    in_view : r.view t.from ≤ t.lane → r.replied t.from ≡ true
    in_view above = grind (arith, eqb_tells t.from s, h.own_view s r at, all t.from, above, low)

    before_restart : IsAcceptable risen t → IsAcceptable w t
    before_restart (by_floor is_up floor) = elim (set_at_cases w.floors s r.view t.to) [
      | inl is ↦
          let above : r.view t.from ≤ t.lane = subst (λ g. g t.from ≤ t.lane) is.1 floor in
          by_round r (subst (λ x. w.down x ≡ true) (sym is.0) down_s) (ap w.rounds is.0 ∙ at) (λ q other no_reply. absurd (both_ways (r.replied q) no_reply (all q (λ me. other (me ∙ sym is.0))))) (in_view above) above
      | inr other ↦ by_floor (sym (set_at_away w.down s false t.to other.0) ∙ is_up) (subst (λ g. g t.from ≤ t.lane) other.1 floor)
    ]
    before_restart (by_sender down is_up lane) = elim (eqb_tells t.from s) [
      | inl is ↦ absurd (not_new is.1 lane)
      | inr other ↦ by_sender (still_down t.to down).1 (sym (set_at_away w.down s false t.from other.1) ∙ is_up) (lane ∙ set_at_away w.lane s (w.lane s + 1) t.from other.1)
    ]
    before_restart (by_round o down there fitting replied_q above) =
        let old = still_down t.to down in
        by_round o old.1 (sym (set_at_away w.rounds s None t.to old.0) ∙ there) (λ q other no_reply. sym (number_risen w risen s refl refl down_s q) ∙ fitting q other no_reply) replied_q above

before_refuse : (w : RecoveryState) (t : Carrier) (y : ℕ) (floors : ℕ → ℕ) → ((z : ℕ) → w.floors y z ≤ floors z) → IsAcceptable (record w { floors = with_value_at w.floors y floors }) t → IsAcceptable w t
before_refuse w t y floors rise (by_floor up floor) = by_floor up (let more = floors_rise w y floors rise t.to t.from in omega (arith, floor, more))
before_refuse w t y floors rise (by_sender down up lane) = by_sender down up lane
before_refuse w t y floors rise (by_round o down at fitting replied above) = by_round o down at fitting replied above

pub acceptance_needs_sending : AcceptanceNeedsSending
acceptance_needs_sending w x (crash p up) h t low there = before_crash w h t low p up there
acceptance_needs_sending w x (begin s view absent is_down mine below present gone) h t low there = before_begin w h t low s view absent gone there
acceptance_needs_sending w x (give_up s) h t low there = before_end w h t low s there
acceptance_needs_sending w x (answer y s r floors up at fits rise above below) h t low there = before_answer w h t low y s r floors up at fits rise there
acceptance_needs_sending w x (refuse y floors up rise below) h t low there = before_refuse w t y floors rise there
acceptance_needs_sending w x (not_up q s r is_down other at fits) h t low there = before_not_up w h t low q s r is_down at fits there
acceptance_needs_sending w x (restart s r at all) h t low there = before_restart w h t low s r at all there

-- what is acceptable after a restart is in transit
module _ (a : DetState) (s : ℕ) (r : Round) (h : RoundInvariant a.state) (k : DetInvariant a) (at : a.state.rounds s ≡ Some r) (all : (q : ℕ) → (q ≡ s → ⊥) → r.replied q ≡ true) where
  abbrev after : RecoveryState
  after = record { lane = with_value_at a.state.lane s (a.state.lane s + 1); down = with_value_at a.state.down s false; floors = with_value_at a.state.floors s r.view; rounds = with_value_at a.state.rounds s None }

  in_transit : (i : ℕ) (t : Carrier) → a.carriers i ≡ Some t → IsAcceptable after t → IsInTransitAfter a s r t
  in_transit i t there (by_floor is_up floor) = elim (set_at_cases a.state.floors s r.view t.to) [
    | inl is ↦ to_new is.0 (subst (λ g. g t.from ≤ t.lane) is.1 floor)
    | inr other ↦ to_up (sym (set_at_away a.state.down s false t.to other.0) ∙ is_up) (subst (λ g. g t.from ≤ t.lane) other.1 floor)
  ]
  in_transit i t there (by_sender down is_up lane) = elim (eqb_tells t.from s) [
    | inl is ↦
        let new : t.lane ≡ a.state.lane s + 1 = lane ∙ ap after.lane is.1 ∙ set_at_here a.state.lane s (a.state.lane s + 1) in
        let old : t.lane ≤ a.state.lane s = subst (λ x. t.lane ≤ a.state.lane x) is.1 (k.lanes i t there) in
        absurd (omega (arith, new, old))
    | inr other ↦ from_up (sym (set_at_away a.state.down s false t.from other.1) ∙ is_up) (lane ∙ set_at_away a.state.lane s (a.state.lane s + 1) t.from other.1)
  ]
  in_transit i t there (by_round o down at_o fitting replied_q above) = elim (set_at_cases a.state.rounds s None t.to) [
    | inl is ↦ absurd (none_some o (sym is.1 ∙ at_o))
    | inr other ↦ to_round o other.0 (sym other.1 ∙ at_o) replied_q above
  ]

pub restarts_miss_nothing : RestartsMissNothing
restarts_miss_nothing a s r x h k at all is must unstable (inl logged) = restarts_gather_all a s r h k at all must unstable (inl logged)
restarts_miss_nothing a s r x h k at all is must unstable (inr (i, t, there, may)) = restarts_gather_all a s r h k at all must unstable (inr (i, t, there, in_transit a s r h k at all i t there (subst (λ y. IsAcceptable y t) is may)))
