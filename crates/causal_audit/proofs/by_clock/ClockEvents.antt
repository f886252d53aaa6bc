-- The event of one more entry: it may be added, and the clock then represents one more entry.
use Rattle.causal_audit.proofs.Common.{ℕ, ◌≡◌, ◌+◌, ◌<◌, ◌≤◌, true, List, [], ◌∷◌, ◌++◌, length, Option, Some, None, refl, sym, ap, ◌∙◌, arith, length-append, false, subst, ◌↔◌, slice_index, slice_set, get_or-append, get_or-append_seam, false≢true, cases_lt, eq-eqb, eqb-true, eqb_tells, get_or-set_other, length-set, Pid, Det, Entry, Restart, Send, Deliver, lane, restarts, actor, is_delivery_of, IsEventOf, event_below, event_lane, AreLegalEntries, delivers_sent, sent_within}
use Rattle.causal_clock.specs.declared.Event.{Event}
use Rattle.causal_clock.specs.Timeline.{Timeline, lane_of, with_event}
use Rattle.causal_audit.specs.Inside.ByClock.ClockOfRun.{IsClockOf, IsClockWithLanes, CanExtendClock}
use Rattle.causal_clock.specs.declared.ClockFault.{ClockFault}
use Rattle.causal_clock.specs.declared.ClockFault.TheVariants.{Lanes as ClockLanes, NoMemory as ClockNoMemory}
use Rattle.causal_audit.proofs.Legal.{entry_short}
use Rattle.causal_trace.proofs.Lemmas.RunProcesses.{send_inside, deliver_inside, restart_inside}
use Rattle.causal_trace.proofs.Lemmas.DependenceSteps.{delivers_below, delivers_old}
use Rattle.std.proofs.lemmas.Grind.{get_or-set_at}

-- ==== one more entry, and one more event for it

-- the send that the event of an entry receives
abbrev pub Receives : Entry → Option ℕ → Type 0
Receives x send = (i : ℕ) → (send ≡ Some i) ↔ (is_delivery_of i x ≡ true)

not_sent : (i : ℕ) → (None ≡ Some i) ↔ (false ≡ true)
not_sent i = (λ h. absurd (let k : None ≡ Some i = h in cc), λ h. absurd (false≢true h))

no_actor : {G : Type 0} {p : ℕ} → None ≡ Some p → G
no_actor h = absurd (cc)

module _ (x : Entry) (past : List Entry) (events : List Event) (e : Event) (s : IsClockOf past events) where
  old_lane : (i p l : ℕ) → IsEventOf past i p l → lane_of (events ++ e ∷ []) i ≡ lane_of events i
  old_lane i p l a = ap (λ (x : Event). x.lane) (get_or-append events (e ∷ []) _ i (omega (arith, event_below past i p l a, s.count)))

  new_lane : (i : ℕ) → i ≡ length past → lane_of (events ++ e ∷ []) i ≡ e.lane
  new_lane i is = grind (arith, s.count, get_or-append_seam events e [])

  module _ (mine : (i p q l : ℕ) → IsEventOf past i p l → actor x ≡ Some q → (lane_of events i ≡ e.lane) ↔ ((p ≡ q) × (l ≡ lane past q))) where
    stands_more : Receives x e.send → IsClockOf (x ∷ past) (events ++ e ∷ [])
    stands_more sends = record {
      count = omega (arith, length-append events (e ∷ []), s.count);
      same_lane = λ i j p q l m a b. grind (arith, old_lane i p l, old_lane j q m, new_lane i, new_lane j);
      receives = λ j i low. grind (arith, cases_lt j (length past), get_or-append events (e ∷ []), get_or-append_seam events e [], s.count, s.receives j i, delivers_old x past j i, delivers_below past j i, sends i);
    }

-- an entry other than a restart, and its event
pub mirrors_event : (n : ℕ) (past : List Entry) (c : Timeline) (present : List ℕ) (x : Entry) (e : Event) → IsClockWithLanes n past c present
    → restarts (x ∷ past) ≡ restarts past → ((q : ℕ) → lane (x ∷ past) q ≡ lane past q)
    → e.lane < c.lanes → ((p : ℕ) → actor x ≡ Some p → (p < n) × (e.lane ≡ slice_index present p)) → Receives x e.send
    → IsClockWithLanes n (x ∷ past) (with_event c e) present
mirrors_event n past c present x e s as_many keeps inside of sends = assumption (stands_more x past c.events e s.stands (λ i p q l a who. grind (arith, of q who, s.present_lane i p q l)) sends, s.opened ∙ sym as_many, lanes, present_lane)
  where
    lanes : (i p l : ℕ) → IsEventOf (x ∷ past) i p l → lane_of (c.events ++ e ∷ []) i < c.lanes
    lanes i p l at = grind (arith, s.lanes i p l, old_lane x past c.events e s.stands i p l, inside, new_lane x past c.events e s.stands i)

    present_lane : (i p q l : ℕ) → q < n → IsEventOf (x ∷ past) i p l → (lane_of (c.events ++ e ∷ []) i ≡ slice_index present q) ↔ ((p ≡ q) × (l ≡ lane (x ∷ past) q))
    present_lane i p q l in_q at = grind (arith, s.present_lane i p q l in_q, old_lane x past c.events e s.stands i p l, keeps q, of p, new_lane x past c.events e s.stands i, s.apart p q)

-- a restart, the lane that it opens, and its event
module _ (n : ℕ) (past : List Entry) (c : Timeline) (present : List ℕ) (who : Pid) (listed : List Det) (e : Event) (s : IsClockWithLanes n past c present) (in_who : who.0 < n) (inside : e.lane < c.lanes + 1) (send : e.send ≡ None) where
  abbrev x : Entry
  x = Restart who listed

  abbrev moved : List ℕ
  moved = slice_set present who.0 c.lanes

  set_at : (q : ℕ) → q ≡ who.0 → slice_index moved q ≡ c.lanes
  set_at q same = grind (arith, get_or-set_at, s.processes)

  pub mirrors_restart : IsClockWithLanes n (x ∷ past) (with_event (record c { lanes = c.lanes + 1; opened = c.opened + 1 }) e) moved
  mirrors_restart = record {
    stands = stands_more x past c.events e s.stands (λ i p q l a h. no_actor h) (subst (Receives x) (sym send) not_sent);
    opened = ap (λ m. m + 1) s.opened;
    processes = length-set present who.0 c.lanes ∙ s.processes;
    within = λ p low. grind (arith, set_at, get_or-set_other);
    apart = λ p q in_p in_q same. grind (arith, set_at, get_or-set_other);
    lanes = λ i p l at. grind (arith, s.lanes i p l, old_lane x past c.events e s.stands i p l);
    present_lane = λ i p q l in_q at.
        grind (arith, eqb_tells who.0 q, old_lane x past c.events e s.stands i p l, set_at q, get_or-set_other present who.0 q c.lanes 0, s.lanes i p l, s.present_lane i p q l in_q, event_lane past i p l);
  }

-- ==== the event of one more entry: it may be added, and the clock then represents one more entry

module _ (x : Entry) (c : Timeline) (present : List ℕ) (can : CanExtendClock x c present) where
  pub room : length c.events < 16777216
  room = omega (arith, entry_short can.processes can.past x can.accepted.1, can.mirrors.stands.count)

  pub some_lane : 0 < c.lanes
  some_lane = omega (arith, can.mirrors.within 0 can.some)

  inside : (p : ℕ) → p < can.processes → (p < length present) × (slice_index present p < c.lanes)
  inside p low = (omega (arith, low, can.mirrors.processes), can.mirrors.within p low)

  pub sender_in : (from to : Pid) (ssn : ℕ) → x ≡ Send from to ssn → (from.0 < length present) × (slice_index present from.0 < c.lanes)
  sender_in from to ssn is = inside from.0 (send_inside can.processes can.past from to ssn (rw is at can.accepted).1)

  pub receiver_in : (to : Pid) (send rsn : ℕ) (listed : List Det) → x ≡ Deliver to send rsn listed → (to.0 < length present) × (slice_index present to.0 < c.lanes)
  receiver_in to send rsn listed is = inside to.0 (deliver_inside can.processes can.past to send rsn listed (rw is at can.accepted).1)

  pub sent_in : (to : Pid) (send rsn : ℕ) (listed : List Det) → x ≡ Deliver to send rsn listed → send < length c.events
  sent_in to send rsn listed is =
      let there : send < length can.past = sent_within can.past send to.0 (delivers_sent can.processes can.past to send rsn listed (rw is at can.accepted).1) in
      omega (arith, there, can.mirrors.stands.count)

  pub restarted_in : (who : Pid) (listed : List Det) → x ≡ Restart who listed → who.0 < length present
  restarted_in who listed is = (inside who.0 (restart_inside can.processes can.past who listed (rw is at can.accepted).1)).0

  pub lanes_left : (who : Pid) (listed : List Det) → x ≡ Restart who listed → c.opened < 192
  lanes_left who listed is =
      let few : restarts can.past + 1 ≤ 192 = subst (λ y. restarts (y ∷ can.past) ≤ 192) is can.lanes in
      omega (arith, can.mirrors.opened, few)

module _ (n : ℕ) (past : List Entry) (x : Entry) (c : Timeline) (present : List ℕ) (accepted : AreLegalEntries n (x ∷ past)) (m : IsClockWithLanes n past c present) where
  pub after_send : (from to : Pid) (ssn : ℕ) → x ≡ Send from to ssn → IsClockWithLanes n (x ∷ past) (with_event c (record { lane = slice_index present from.0; send = None })) present
  after_send from to ssn is =
      let low : from.0 < n = send_inside n past from to ssn (rw is at accepted).1 in
      rw is (mirrors_event n past c present (Send from to ssn) (record { lane = slice_index present from.0; send = None }) m refl (λ q. refl) (m.within from.0 low)
      (λ p k. let one : from.0 ≡ p = cc k in (omega (arith, low, one), ap (slice_index present) one)) not_sent)

  pub after_deliver : (to : Pid) (send rsn : ℕ) (listed : List Det) → x ≡ Deliver to send rsn listed → IsClockWithLanes n (x ∷ past) (with_event c (record { lane = slice_index present to.0; send = Some send })) present
  after_deliver to send rsn listed is =
      let low : to.0 < n = deliver_inside n past to send rsn listed (rw is at accepted).1 in
      rw is (mirrors_event n past c present (Deliver to send rsn listed) (record { lane = slice_index present to.0; send = Some send }) m refl (λ q. refl) (m.within to.0 low)
      (λ p k. let one : to.0 ≡ p = cc k in (omega (arith, low, one), ap (slice_index present) one)) (λ i. grind (arith, eq-eqb, eqb-true)))

  -- the event of an entry other than a send, delivery or restart
  pub after_other : (y : Entry) → x ≡ y → (restarts (y ∷ past) ≡ restarts past) → ((q : ℕ) → lane (y ∷ past) q ≡ lane past q) → actor y ≡ None → ((i : ℕ) → is_delivery_of i y ≡ false) → 0 < c.lanes
      → IsClockWithLanes n (x ∷ past) (with_event c (record { lane = 0; send = None })) present
  after_other y is keeps same none undelivered some =
      rw is (mirrors_event n past c present y (record { lane = 0; send = None }) m keeps same some (λ p k. no_actor (sym none ∙ k)) (λ i. subst (λ b. (None ≡ Some i) ↔ (b ≡ true)) (sym (undelivered i)) (not_sent i)))

  pub after_restart : (who : Pid) (listed : List Det) → x ≡ Restart who listed → IsClockWithLanes n (x ∷ past) (with_event (record c { lanes = c.lanes + 1; opened = c.opened + 1 }) (record { lane = c.lanes; send = None })) (slice_set present who.0 c.lanes)
  after_restart who listed is = rw is (mirrors_restart n past c present who listed (record { lane = c.lanes; send = None }) m (restart_inside n past who listed (rw is at accepted).1) (omega arith) refl)

-- an error of the clock other than too many lanes is out of memory
pub only_memory : (e : ClockFault) → (e ≡ ClockLanes → ⊥) → e ≡ ClockNoMemory
only_memory e h = grind arith

pub ruleset of_events = (after_send, after_deliver, after_other, some_lane, lanes_left, only_memory)
