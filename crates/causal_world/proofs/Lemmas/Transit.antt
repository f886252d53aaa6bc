-- What is in transit in a world, and that steps bring nothing into transit but what is sent.
use Rattle.std.proofs.Common.{ℕ, suc, ◌≡◌, ◌≤◌, inl, inr, Bool, true, false, cond, not, ◌&&◌, ◌||◌, nat_le, Option, Some, None, refl, sym, ap, subst, ◌∙◌, arith}
use Rattle.std.specs.Prelude.{◌==◌}
use Rattle.std.proofs.lemmas.Bool.{false≢true, both_ways, or_cases, or_left, or_right, and_from, and_parts, eqb-true, eq-eqb, cond-true, cond-false, not_from_false, false_from_ne_true, cases_lt, cases_Bool}
use Rattle.std.proofs.lemmas.Bool.Decides.{eqb_tells}
use Rattle.causal_name.specs.Sets.{any_below}
use Rattle.causal_holders.proofs.Lemmas.MemberCounts.{any_below-found, any_below-from}
use Rattle.causal_steps.specs.Transit.{TransitParcel, IsInTransit}
use Rattle.causal_rounds.specs.Rounds.{with_value_at, RecoveryState, Round, RoundStep, RoundInvariant, number}
use Rattle.causal_rounds.specs.Gathered.{Carrier, MayComplete}
use Rattle.causal_rounds.specs.Acceptance.{IsAcceptable, by_floor, by_sender, by_round}
use Rattle.causal_world.specs.World.{Packet, World, carrier_of, is_open, round_accepts, is_acceptable, if_in_transit, volatile_of}
use Rattle.causal_rounds.proofs.Lemmas.AcceptanceSteps.{acceptance_needs_sending}
use Rattle.causal_rounds.proofs.Lemmas.RoundSteps.{set_at_cases, some_is, none_some}
use Rattle.causal_steps.specs.Steps.{HasNothingNew, HasOneNew}
use Rattle.causal_world.specs.Invariant.{AbsentAreDown}

abbrev is_apart : RecoveryState → ℕ → Round → ℕ → Bool
is_apart w s r q = not (q == s) && (not (r.replied q) && not (number w q == r.view q))

module _ (n : ℕ) (w : RecoveryState) where
  -- a round is open if the test says so, and the other way round
  open_is : (s : ℕ) (r : Round) → ((q : ℕ) → n ≤ q → r.replied q ≡ true) → is_open n w s r ≡ true → MayComplete w s r
  open_is s r absent h q other no_reply = elim (eqb_tells (number w q) (r.view q)) [
    | inl same ↦ same.1
    | inr differ ↦ absurd (elim (cases_lt q n) [
      | inl low ↦ both_ways (any_below n (is_apart w s r)) (grind (arith, h)) (any_below-from n (is_apart w s r) q low (grind (arith, eqb_tells q s, no_reply, differ)))
      | inr high ↦ both_ways (r.replied q) no_reply (absent q high)
    ])
  ]

  is_opened : (s : ℕ) (r : Round) → MayComplete w s r → is_open n w s r ≡ true
  is_opened s r opened = ap not (false_from_ne_true (any_below n (is_apart w s r)) (λ is.
      let found = any_below-found n (is_apart w s r) is in
      grind (arith, found.2, eqb_tells found.0 s, opened found.0, eqb_tells (number w found.0) (r.view found.0))))

  -- the test of what is acceptable
  pub acceptable_is : AbsentAreDown n w → (t : Carrier) → is_acceptable n w t ≡ true → IsAcceptable w t
  acceptable_is absent t h = by (w.down t.to) refl h
    where
      round : (o : Option Round) → w.rounds t.to ≡ o → round_accepts n w t o ≡ true → w.down t.to ≡ true → IsAcceptable w t
      round None at h down = absurd (false≢true h)
      round (Some r) at h down =
          let parts = and_parts (is_open n w t.to r) (r.replied t.from && nat_le (r.view t.from) t.lane) h in
          let more = and_parts (r.replied t.from) (nat_le (r.view t.from) t.lane) parts.1 in
          by_round r down at (open_is t.to r (λ q high. absent.replied t.to q r at high) parts.0) more.0 (grind (arith, more.1))

      by : (b : Bool) → w.down t.to ≡ b → cond b ((not (w.down t.from) && t.lane == w.lane t.from) || round_accepts n w t (w.rounds t.to)) (nat_le (w.floors t.to t.from) t.lane) ≡ true → IsAcceptable w t
      by false up h = by_floor up (grind (arith, h))
      by true down h = elim (or_cases (not (w.down t.from) && t.lane == w.lane t.from) (round_accepts n w t (w.rounds t.to)) h) [
        | inl sender ↦ let parts = and_parts (not (w.down t.from)) (t.lane == w.lane t.from) sender in by_sender down (grind (arith, parts.0)) (eqb-true t.lane (w.lane t.from) parts.1)
        | inr accepts ↦ round (w.rounds t.to) refl accepts down
      ]

  pub is_accepted : (t : Carrier) → IsAcceptable w t → is_acceptable n w t ≡ true
  is_accepted t (by_floor up floor) = cond-false (w.down t.to) _ _ up ∙ grind (arith, floor)
  is_accepted t (by_sender down up lane) = cond-true (w.down t.to) _ _ down ∙ or_left _ _ (and_from _ _ (not_from_false (w.down t.from) up) (eq-eqb t.lane (w.lane t.from) lane))
  is_accepted t (by_round r down at opened replied above) =
      cond-true (w.down t.to) _ _ down
      ∙ or_right _ _ (ap (round_accepts n w t) at ∙ and_from _ _ (is_opened t.to r opened) (and_from _ _ replied (grind (arith, above))))

-- a parcel in transit is that of a packet that may be taken, or was stored
abbrev pub may_reach : ℕ → World → ℕ → Packet → Bool
may_reach n w i p = w.landed i || is_acceptable (suc n) w.rounds (carrier_of p)

pub packet_of : (n : ℕ) (w : World) (t : TransitParcel) → IsInTransit (volatile_of n w) t → (i : ℕ) × (p : Packet) × (w.packets i ≡ Some p) × (may_reach n w i p ≡ true) × (p.parcel ≡ t)
packet_of n w t (i, j, at) = by (w.packets i) refl at
  where
    by : (o : Option Packet) → w.packets i ≡ o → if_in_transit (suc n) w.rounds (w.landed i) o ≡ Some t → (i : ℕ) × (p : Packet) × (w.packets i ≡ Some p) × (may_reach n w i p ≡ true) × (p.parcel ≡ t)
    by None is h = absurd (let e : None ≡ Some t = h in cc)
    by (Some p) is h = elim (cases_Bool (may_reach n w i p)) [
      | inl accepted ↦ (i, p, is, accepted, some_is p.parcel t (sym (cond-true (may_reach n w i p) (Some p.parcel) None accepted) ∙ h))
      | inr refused ↦ absurd (none_some t (sym (cond-false (may_reach n w i p) (Some p.parcel) None refused) ∙ h))
    ]

-- and such a packet's is in transit
pub in_transit_if : (n : ℕ) (w : World) (i : ℕ) (p : Packet) → w.packets i ≡ Some p → may_reach n w i p ≡ true → IsInTransit (volatile_of n w) p.parcel
in_transit_if n w i p at accepted = (i, 0, ap (if_in_transit (suc n) w.rounds (w.landed i)) at ∙ cond-true (may_reach n w i p) (Some p.parcel) None accepted)

pub in_transit_of : (n : ℕ) (w : World) (i : ℕ) (p : Packet) → w.packets i ≡ Some p → is_acceptable (suc n) w.rounds (carrier_of p) ≡ true → IsInTransit (volatile_of n w) p.parcel
in_transit_of n w i p at accepted = in_transit_if n w i p at (or_right (w.landed i) _ accepted)

pub landed_in_transit : (n : ℕ) (w : World) (i : ℕ) (p : Packet) → w.packets i ≡ Some p → w.landed i ≡ true → IsInTransit (volatile_of n w) p.parcel
landed_in_transit n w i p at landed = in_transit_if n w i p at (or_left (w.landed i) _ landed)

abbrev pub LanesHaveBegun : World → Type 0
LanesHaveBegun w = (i : ℕ) (p : Packet) → w.packets i ≡ Some p → p.lane ≤ w.rounds.lane p.parcel.from

-- a step of the rounds brings nothing into transit
pub rounds_bring_nothing : (n : ℕ) (w x : World) → RoundStep w.rounds x.rounds → RoundInvariant w.rounds → AbsentAreDown (suc n) x.rounds → ((i : ℕ) → x.packets i ≡ w.packets i) → ((i : ℕ) → x.landed i ≡ w.landed i) → LanesHaveBegun w → HasNothingNew (volatile_of n w) (volatile_of n x)
rounds_bring_nothing n w x step k absent same landed lanes t there =
    let found = packet_of n x t there in
    let at = sym (same found.0) ∙ found.2 in
    subst (λ y. IsInTransit (volatile_of n w) y) found.4 (elim (or_cases (x.landed found.0) (is_acceptable (suc n) x.rounds (carrier_of found.1)) found.3) [
      | inl was ↦ landed_in_transit n w found.0 found.1 at (sym (landed found.0) ∙ was)
      | inr accepted ↦
          let before = acceptance_needs_sending w.rounds x.rounds step k (carrier_of found.1) (lanes found.0 found.1 at) (acceptable_is (suc n) x.rounds absent (carrier_of found.1) accepted) in
          in_transit_of n w found.0 found.1 at (is_accepted (suc n) w.rounds (carrier_of found.1) before)
    ])

-- if neither rounds nor packets change, nothing is new
pub same_brings_nothing : (n : ℕ) (w x : World) → x.rounds ≡ w.rounds → ((i : ℕ) → x.packets i ≡ w.packets i) → ((i : ℕ) → x.landed i ≡ w.landed i) → HasNothingNew (volatile_of n w) (volatile_of n x)
same_brings_nothing n w x rounds same landed t there =
    let found = packet_of n x t there in
    subst (λ y. IsInTransit (volatile_of n w) y) found.4 (in_transit_if n w found.0 found.1 (sym (same found.0) ∙ found.2) ((λ j. sym (landed found.0) j || is_acceptable (suc n) (sym rounds j) (carrier_of found.1)) ∙ found.3))

-- if one packet is sent, nothing else is new
pub one_is_new : (n : ℕ) (w x : World) (i : ℕ) (new : Packet) → x.rounds ≡ w.rounds → ((j : ℕ) → x.packets j ≡ with_value_at w.packets i (Some new) j) → ((j : ℕ) → x.landed j ≡ w.landed j) → HasOneNew (volatile_of n w) (volatile_of n x) new.parcel
one_is_new n w x i new rounds same landed t there =
    let found = packet_of n x t there in
    elim (set_at_cases w.packets i (Some new) found.0) [
      | inl is ↦ inr (sym found.4 ∙ ap (λ (p : Packet). p.parcel) (sym (some_is new found.1 (sym is.1 ∙ sym (same found.0) ∙ found.2))))
      | inr other ↦ inl (subst (λ y. IsInTransit (volatile_of n w) y) found.4 (in_transit_if n w found.0 found.1 (sym other.1 ∙ sym (same found.0) ∙ found.2) ((λ j. sym (landed found.0) j || is_acceptable (suc n) (sym rounds j) (carrier_of found.1)) ∙ found.3)))
    ]
