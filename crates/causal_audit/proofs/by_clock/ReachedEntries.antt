-- The entries that a delivery reaches, at each instant and in the whole run, and a walk from change to change.
use Rattle.causal_audit.proofs.Common.{ℕ, ◌≡◌, ◌<◌, ◌≤◌, ◌==◌, inl, List, ◌∷◌, length, sym, arith, inr, Bool, true, Some, refl, ap, subst, ◌∙◌, ◌+◌, get_or, Option, ◌↔◌, ◌||◌, Contains, eqb-true, eq-eqb, nat_tests, Entry, instant, det_at, lane, AreLegalEntries, Recording, IsWellFormed, IsEventOf, Reaches, actor, in_order, by_message, itself, onward, Depends, reaches_old, event_below, reaches_newest, ReachesNewest, is_newest, list_has, in_lane, through_message, accepted_forward, Pid, Det, Send, Deliver, entries_of, accepted_then, det_then, instant_length}
use Rattle.causal_clock.specs.declared.Event.{Event}
use Rattle.causal_clock.specs.Precedence as clock
use Rattle.causal_audit.proofs.Between.{reaches_more, known_already, quiet_step}
use Rattle.causal_audit.proofs.Legal.{delivery_event}
use Rattle.causal_audit.proofs.by_clock.Link.{clock_tells}
use Rattle.causal_audit.specs.Inside.ByClock.ClockOfRun.{IsClockOf}
use Rattle.causal_audit.specs.Inside.DeliveryStates.{IsNextReached, IsDeliveryState, IsStateAfter, BreachAt, IsBreachForState}
use Rattle.causal_audit.proofs.Swept.{sent_before}
use Rattle.causal_audit.specs.declared.breach.Breach.{Breach}
use Rattle.causal_audit.specs.declared.delivery_state.DeliveryState.{DeliveryState}
use Rattle.causal_trace.specs.Past.{mentioned_dets}
use Rattle.causal_audit.specs.Quiet.{SameDeliveryState}
use Rattle.causal_audit.specs.Inside.PositionLists.{AreMentionsOf, HasNoEffect, HasMentions, HasNoneUntil}
use Rattle.causal_audit.proofs.safety_scan.CoverStays.{mentioned_next}
use Rattle.causal_audit.proofs.NoOrphanSoFar.{accepted_next}
use Rattle.causal_audit.proofs.Steps.{entry_read}
use Rattle.causal_trace.proofs.Lemmas.AtInstants.{at_instant, next_state}

-- ==== a run's entries in order, and its instants

-- ---- which events reach which is the same at each instant

pub reaches_then : (n : ℕ) (past : List Entry) (t i j : ℕ) → AreLegalEntries n past → t ≤ length past → j < t → Reaches past i j → Reaches (instant past t) i j
reaches_then n past t i j formed within below r =
    (at_instant (λ x. j < length x → AreLegalEntries n x × Reaches x i j)
    (λ e x was low. let h = was (omega (arith, low)) in (h.0.0, reaches_old e x i (accepted_forward n (e ∷ x) h.0) j low h.1)) past t (λ low. (formed, r)) (omega (arith, below, instant_length past t within))).1

pub reaches_whole : (past : List Entry) (t i j : ℕ) → Reaches (instant past t) i j → Reaches past i j
reaches_whole past t i j = at_instant (λ x. Reaches x i j → Reaches past i j) (λ e x h r. h (reaches_more e x i j r)) past t (λ r. r)

-- an event at an instant is an event of the run
pub event_whole : (past : List Entry) (t i p l : ℕ) → IsEventOf (instant past t) i p l → IsEventOf past i p l
event_whole past t i p l = at_instant (λ x. IsEventOf x i p l → IsEventOf past i p l) (λ e x h at. h (inl at)) past t (λ at. at)

-- ==== the entries that a delivery reaches, entry by entry

-- ---- whether the newest entry is reached

-- an event of a process that depends on k is reached
pub reached_after : (e : Entry) (past : List Entry) (k p : ℕ) → actor e ≡ Some p → Depends past k p → Reaches (e ∷ past) k (length past)
reached_after e past k p of d =
    onward (reaches_more e past k d.event d.reached)
    (in_order p (lane past p) (event_below past d.event p (lane past p) d.present) (inl d.present) (inr (refl, of, refl)))

module _ (n : ℕ) (past : List Entry) (k : ℕ) (depends : ℕ → Bool) (are : (p : ℕ) → (depends p ≡ true) ↔ Depends past k p) where
  -- a send is reached exactly if its process depends on k
  pub send_tells : (d : Det) (from to : Pid) (ssn : ℕ) → AreLegalEntries n (Send from to ssn ∷ past) → (k ≡ length past → det_at (Send from to ssn ∷ past) k ≡ Some d)
      → IsNextReached past (Send from to ssn) k (depends from.0)
  send_tells d from to ssn formed at p of =
      let e = Send from to ssn in
      let same : from.0 ≡ p = let x : Some from.0 ≡ Some p = of in cc in (
        λ h. reached_after e past k p of ((are p).0 (ap depends (sym same) ∙ h)),
        λ reach. ap depends same ∙ (are p).1 (sent_before n past k d from to ssn p formed at of (reaches_newest e past k p (length past) (accepted_forward n (e ∷ past) formed) refl of reach)),
      )

  -- a delivery is reached exactly if it is k, its process depends on k, or its message's send is reached
  pub delivery_tells : (own brings : Bool) → ((own ≡ true) ↔ (length past ≡ k)) → (to : Pid) (send rsn : ℕ) (listed : List Det) → ((brings ≡ true) ↔ Reaches past k send)
      → AreLegalEntries n (Deliver to send rsn listed ∷ past) → IsNextReached past (Deliver to send rsn listed) k (own || (depends to.0 || brings))
  delivery_tells own brings is_own to send rsn listed is_brought formed p of = (forth, λ reach. how (reaches_newest e past k p (length past) (accepted_forward n (e ∷ past) formed) refl of reach))
    where
      e : Entry
      e = Deliver to send rsn listed

      same : to.0 ≡ p
      same = let x : Some to.0 ≡ Some p = of in cc

      forth : (own || (depends to.0 || brings)) ≡ true → Reaches (e ∷ past) k (length past)
      forth h =
          let mine : Reaches (e ∷ past) (length past) (length past) = itself p (lane past p) (inr (refl, of, refl)) in
          let brought : Reaches past k send → Reaches (e ∷ past) k (length past) = λ r. onward (reaches_more e past k send r) (by_message (inr (refl, eq-eqb send send refl))) in
          grind (arith, nat_tests, is_own.0, mine, brought, reached_after e past k p of, are p, is_brought.0, same)

      how : ReachesNewest e past k p → (own || (depends to.0 || brings)) ≡ true
      how (is_newest is) = grind (arith, nat_tests, is_own.1 (sym is))
      how (in_lane j event reach) = grind (arith, nat_tests, (are p).1 (known_already n past e k j p formed.1 of event reach))
      how (through_message j is reach) = grind (arith, nat_tests, is_brought.1 (subst (Reaches past k) (sym (eqb-true send j is)) reach))

-- ==== one delivery, from change to change

-- the entry at t: the clock decides whether the delivery reaches it, and the next mention whether it mentions the
-- determinant
module _ (r : Recording) (formed : IsWellFormed r) (es : List Entry) (read : es ≡ entries_of r) (events : List Event) (stands : IsClockOf r.past events) (k : ℕ) (d : Det) (made : det_at r.past k ≡ Some d) (mentions : List ℕ) (listed : HasMentions r.past d mentions) (only : AreMentionsOf r.past d mentions)
    (t : ℕ) (e : Entry) (is : e ≡ get_or es t e) (below : t < length r.past) (mention : ℕ) (late : t ≤ mention) (none : HasNoneUntil mentions t mention) (found : mention ≡ t → Contains mentions t) (reached : Bool) (tells : (reached ≡ true) ↔ clock.Precedes events k t) where
  next : instant r.past (t + 1) ≡ e ∷ instant r.past t
  next = next_state r es read t e below is

  long : length (instant r.past t) ≡ t
  long = instant_length r.past t (omega (arith, below))

  told : (mention == t) ≡ list_has (mentioned_dets e) d
  told = mentioned_next r.past d mentions listed only t mention none t (omega arith) late found e (entry_read r es read t e below is)

  clock_reached : IsNextReached (instant r.past t) e k reached
  clock_reached p of =
      let from = delivery_event r.past k d made in
      let here : IsEventOf (e ∷ instant r.past t) t p (lane (instant r.past t) p) = inr (sym long, of, refl) in
      let event = event_whole r.past (t + 1) t p (lane (instant r.past t) p) (subst (λ past. IsEventOf past t p (lane (instant r.past t) p)) (sym next) here) in
      let same = clock_tells r.processes r.past formed.accepted events stands k t from.0 p from.1 (lane (instant r.past t) p) from.2 event in (
        λ h. subst (Reaches (e ∷ instant r.past t) k) (sym long) (subst (λ past. Reaches past k t) next (reaches_then r.processes r.past (t + 1) k t formed.accepted (omega (arith, below)) (omega arith) (same.0 (tells.0 h)))),
        λ reach. tells.1 (same.1 (reaches_whole r.past (t + 1) k t (subst (λ past. Reaches past k t) (sym next) (subst (Reaches (e ∷ instant r.past t) k) long reach)))),
      )

  -- if it changes nothing, the instants before and after it agree
  pub unchanged : (s : DeliveryState) → IsDeliveryState (instant r.past t) k d s → HasNoEffect e (mention == t) reached s.dependents → SameDeliveryState (instant r.past t) (instant r.past (t + 1)) k d
  unchanged s state nothing =
      subst (λ past. SameDeliveryState (instant r.past t) past k d) (sym next)
      (quiet_step r.processes e (instant r.past t) k d (accepted_next r formed t e below next) (record {
        no_turn = nothing.no_turn;
        unmentioned = sym told ∙ nothing.unmentioned;
        known = λ p of reach. (state.dependents p).0 (nothing.known p of ((clock_reached p of).1 reach));
      }))

  -- otherwise the state after it decides whether the delivery has an orphan then
  pub seen_after : (before after : DeliveryState) → IsDeliveryState (instant r.past t) k d before → IsStateAfter e (mention == t) reached before after → IsDeliveryState (instant r.past (t + 1)) k d after
  seen_after before after state sees =
      subst (λ past. IsDeliveryState past k d after) (sym next) (sees r.processes (instant r.past t) k d (accepted_next r formed t e below next) told clock_reached state)

-- the breach computed from the state at an instant is the breach at this instant
pub breach_after : (r : Recording) (formed : IsWellFormed r) (f k : ℕ) (d : Det) (made : det_at r.past k ≡ Some d) (t : ℕ) (within : t ≤ length r.past) (s : DeliveryState) (found : Option Breach) → IsDeliveryState (instant r.past t) k d s → IsBreachForState f k t s found → BreachAt r.processes f (instant r.past t) k t found
breach_after r formed f k d made t within s found state tells =
    tells r.processes (instant r.past t) d (accepted_then r.processes r.past t formed.accepted) (instant_length r.past t within) (λ early. det_then r.past t k early within ∙ made) state
