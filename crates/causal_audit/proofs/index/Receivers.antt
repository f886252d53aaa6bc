-- When the effect of a delivery leaves its receiver, and what this implies for its orphans.
use Rattle.causal_audit.proofs.Common.{ℕ, ◌≡◌, ◌<◌, ◌≤◌, inl, inr, true, false, List, [], ◌∷◌, length, Some, None, sym, ap, subst, ◌∙◌, arith, get_or, delivers_sent, message_sent, option_and_then, ◌+◌, ◌⊎◌, ◌==◌, slice_set, option_map, option_map_or, cases_lt, false≢true, eqb-true, eq-eqb, or_from, cond-true, cond-false, false_from_ne_true, nat_tests, Pid, Det, Entry, Send, Deliver, instant, is_down, is_send_to, logs, lane, det_at, det_of, det_from, entry_at, AreLegalEntries, Depends, IsEventOf, Delivers, DirectlyPrecedes, in_order, by_message, Reaches, itself, onward, is_delivery_of, accepted_forward, event_below, event_lane, instant_length, det_then, HasOrphan, length-set, get_or-set_other}
use Rattle.causal_audit.specs.Laws.{down_or_holding}
use Rattle.causal_audit.specs.Covered.{LocalHasNoOtherDependents, CoveredHasNoOrphan, StaysLocalUntil, CrashedHasNoDependents}
use Rattle.causal_trace.proofs.Lemmas.DependenceSteps.{event_once, delivers_below, precedes_before}
use Rattle.causal_trace.proofs.Lemmas.Instants.{det_more}
use Rattle.causal_audit.proofs.Steps.{entry_within}
use Rattle.causal_audit.proofs.Lemmas.OrphansByCounts.{exposed}
use Rattle.causal_audit.proofs.Legal.{delivery_event, sent_is}
use Rattle.causal_audit.proofs.NoOrphanSoFar.{not_yet}
use Rattle.causal_audit.proofs.by_clock.ReachedEntries.{reaches_whole, event_whole}
use Rattle.causal_audit.specs.Inside.Index.Departures.{event_process, process_at, AreDepartures, with_delivered, departure_at}
use Rattle.causal_audit.proofs.by_clock.Begun.{onward_to}
use Rattle.causal_audit.proofs.safety_scan.CoverStays.{entry_then}
use Rattle.causal_audit.specs.declared.safety_scan.at_risk_intervals.AtRiskIntervals.{AtRiskIntervals}
use Rattle.causal_audit.specs.Inside.Index.Lists.{IsFirstCrash}
use Rattle.causal_audit.specs.Inside.SafetyScan.Scans.{IsAtRiskWithoutReceiverAt, IsAtRiskAt, AreAtRiskIntervals, MayBeOpen}
use Rattle.std.proofs.lemmas.Grind.{get_or-set_at, common_steps}

-- ==== when the effect of a delivery leaves its receiver

-- ---- a reached event is of the same lane, or a message of the lane was delivered before

-- a delivery, at or before j, of a message that the lane sends at or after i
abbrev Left : List Entry → ℕ → ℕ → ℕ → ℕ → Type 0
Left past i p l v = (s : ℕ) × (j : ℕ) × (i ≤ s) × IsEventOf past s p l × Delivers past j s × (j ≤ v)

-- an event reaches only itself and later events
pub reach_later : (n : ℕ) (past : List Entry) → AreLegalEntries n past → (i j : ℕ) → Reaches past i j → i ≤ j
reach_later n past formed i j (itself p l at) = omega arith
reach_later n past formed i k (onward {j} r direct) = omega (arith, reach_later n past formed i j r, precedes_before past j k (accepted_forward n past formed) direct)

module _ (n : ℕ) (past : List Entry) (formed : AreLegalEntries n past) (i p l : ℕ) (of : IsEventOf past i p l) where
  next_stays : (j v : ℕ) → i ≤ j → IsEventOf past j p l → DirectlyPrecedes past j v → IsEventOf past v p l ⊎ Left past i p l v
  next_stays j v after here (in_order q m less a b) = grind (arith, event_once past j q m p l a here)
  next_stays j v after here (by_message h) = inr (j, v, after, here, h, omega arith)

  pub stays_or_left : (v : ℕ) → Reaches past i v → IsEventOf past v p l ⊎ Left past i p l v
  stays_or_left v (itself q m at) = inl of
  stays_or_left v (onward {j} r direct) =
      elim (stays_or_left j r) [
        | inl here ↦ next_stays j v (reach_later n past formed i j r) here direct
        | inr left ↦ inr (left.0, left.1, left.2, left.3, left.4, omega (arith, left.5, precedes_before past j v (accepted_forward n past formed) direct))
      ]

-- ---- the process of an event, and of a delivery

-- an event is an entry of its process
pub process_of_event : (past : List Entry) (i p l : ℕ) → IsEventOf past i p l → process_at past i ≡ p
process_of_event [] i p l of = absurd of
process_of_event (e ∷ past) i p l of = grind (arith, cond-true, cond-false, event_below past i p l, process_of_event past i p l)

-- the receiver of a delivery is the process of its position
pub det_process : (past : List Entry) (k : ℕ) (d : Det) → det_at past k ≡ Some d → process_at past k ≡ d.dest.0
det_process [] k d at = absurd (let h : None ≡ Some d = at in cc)
det_process (e ∷ past) k d at = grind (arith, cond-true, cond-false, det_process past k d)

-- ---- until then only the receiver depends on it

-- a dependent's event is of the delivery's lane
local : (past : List Entry) (k spread u q p l : ℕ) → IsEventOf past k p l → StaysLocalUntil past k spread → u ≤ spread → u ≤ length past → Depends (instant past u) k q → (q ≡ p) × (lane (instant past u) q ≡ l)
local past k spread u q p l of departures low within depends =
    let early : depends.event < u = omega (arith, event_below (instant past u) depends.event q (lane (instant past u) q) depends.present, instant_length past u within) in
    event_once past depends.event q (lane (instant past u) q) p l (event_whole past u depends.event q (lane (instant past u) q) depends.present)
    (departures depends.event p l (omega (arith, early, low)) of (reaches_whole past u k depends.event depends.reached))

pub alone : LocalHasNoOtherDependents
alone n past k d spread u q formed at departures low within depends =
    let from = delivery_event past k d at in
    (local past k spread u q from.0 from.1 from.2 departures low within depends).0 ∙ sym (process_of_event past k from.0 from.1 from.2) ∙ det_process past k d at

-- ---- a covered delivery has no orphan

pub covered : CoveredHasNoOrphan
covered n f past k d spread u formed at departures within (inl ahead) has = not_yet n f (instant past u) k (omega (arith, ahead, instant_length past u within)) has
covered n f past k d spread u formed at departures within (inr more) has =
    elim (cases_lt k u) [
      | inr ahead ↦ not_yet n f (instant past u) k (omega (arith, ahead, instant_length past u within)) has
      | inl made ↦
          let e = exposed n f (instant past u) k d (det_then past u k made within ∙ at) has in
          grind (arith, e.few, alone n past k d spread u e.orphan formed at departures, or_from (is_down (instant past u) e.orphan) (logs (instant past u) e.orphan d) e.depends.up e.without, e.depends)
    ]

-- ==== the process of each entry, and when the effect of a delivery leaves it

-- the newest entry of the longer past, and an older entry
pub newest_entry : (e : Entry) (past : List Entry) (v : ℕ) → v ≡ length past → entry_at (e ∷ past) v ≡ Some e
newest_entry e past v is = cond-true (v == length past) (Some e) (entry_at past v) (eq-eqb v (length past) is)

pub older_entry : (e : Entry) (past : List Entry) (v : ℕ) (x : Entry) → entry_at past v ≡ Some x → entry_at (e ∷ past) v ≡ Some x
older_entry e past v x at = grind (arith, cond-false, entry_within past v x at)

-- the process of a position is that of the entry there
pub process_is : (past : List Entry) (i : ℕ) (e : Entry) → entry_at past i ≡ Some e → process_at past i ≡ event_process e
process_is past i e at = ap (λ o. option_map_or event_process o 0) at

-- a delivery has a determinant, whose source sent the message to its receiver
pub delivered : (n : ℕ) (past : List Entry) → AreLegalEntries n past → (v s : ℕ) → Delivers past v s → (d : Det) × (to : Pid) × (det_at past v ≡ Some d) × (entry_at past s ≡ Some (Send d.source to d.ssn)) × (to.0 ≡ d.dest.0)
delivered n [] formed v s h = absurd h
delivered n (e ∷ past) formed v s (inl old) =
    let was = delivered n past formed.0 v s old in
    (was.0, was.1, det_more e past v (delivers_below past v s old) ∙ was.2, older_entry e past s _ was.3, was.4)
delivered n (Deliver to send rsn listed ∷ past) formed v s (inr new) =
    let e = Deliver to send rsn listed in
    let legal = delivers_sent n past to send rsn listed formed.1 in
    let sent = sent_is to.0 (entry_at past send) legal in
    let same : send ≡ s = eqb-true send s new.1 in (
      record { source = sent.0; ssn = sent.2; dest = to; rsn = rsn },
      sent.1,
      cond-true (v == length past) (det_of past e) (det_at past v) (eq-eqb v (length past) new.0)
          ∙ ap (λ o. option_map (det_from to rsn) (option_and_then message_sent o)) sent.3,
      older_entry e past s _ (ap (entry_at past) (sym same) ∙ sent.3),
      eqb-true sent.1.0 to.0 (subst (λ o. option_map_or (is_send_to to.0) o false ≡ true) sent.3 legal),
    )
delivered n (_ ∷ past) formed v s (inr new) = absurd (false≢true new.1)

-- the effect of a delivery stays with its process until the listed position
pub stays_with : (n : ℕ) (past : List Entry) → AreLegalEntries n past → (departures : List ℕ) → AreDepartures past (process_at past) departures → (k : ℕ) → StaysLocalUntil past k (get_or departures k 0)
stays_with n past formed departures are k v p l before of reach = grind (arith, common_steps, stays_or_left, process_of_event)

-- ==== a delivery whose effect has not left its receiver, which has crashed since

-- a process that went down in lane l or an earlier one is still down, or up in a later lane
abbrev Fell : ℕ → ℕ → List Entry → Type 0
Fell p l past = ((is_down past p ≡ true) × (l ≤ lane past p)) ⊎ (l < lane past p)

-- no process depends on such a delivery
pub crashed : CrashedHasNoDependents
crashed n past k d spread c u q formed at departures crash after before low within depends =
    let then = instant past (c + 1) in
    let from = delivery_event then k d (det_then past (c + 1) k (omega (arith, after)) (omega (arith, before, within)) ∙ at) in
    let same = local past k spread u q from.0 from.1 (event_whole past (c + 1) k from.0 from.1 from.2) departures low within depends in
    let who : crash.0.0 ≡ q = crash.2 ∙ sym (alone n past k d spread u q formed at departures low within depends) in
    let down : is_down then q ≡ true = grind (arith, entry_then, eq-eqb) in
    let lane_low : from.1 ≤ lane then q = subst (λ x. from.1 ≤ lane then x) (sym same.0) (event_lane then k from.0 from.1 from.2) in
    let fell : Fell q from.1 (instant past u) =
    onward_to (Fell q from.1) past (c + 1) u (omega (arith, before)) within (λ v e above below there h. grind (arith, nat_tests)) (inl (down, lane_low)) in
    grind (arith, fell, depends.up, same.1)

-- ==== the determinant of a delivery with an orphan is at risk

module _ (n most : ℕ) (past : List Entry) (formed : AreLegalEntries n past) (k : ℕ) (d : Det) (at : det_at past k ≡ Some d) (spread : ℕ) (departures : StaysLocalUntil past k spread) (u : ℕ) (within : u ≤ length past) (has : HasOrphan n most (instant past u) k) where
  -- the delivery is in the past
  pub orphan_made : k < u
  orphan_made = grind (arith, cases_lt, not_yet n most (instant past u) k, instant_length past u within, has)

  pub orphan_thin : IsAtRiskAt n most past d u
  orphan_thin =
      let e = exposed n most (instant past u) k d (det_then past u k orphan_made within ∙ at) has in
      let event = event_whole past u e.depends.event e.orphan (lane (instant past u) e.orphan) e.depends.present in
      grind (arith, e.unstable, e.few, det_process past k d at, reaches_whole past u k e.depends.event e.depends.reached, process_of_event past e.depends.event e.orphan _ event, event)

  -- while its effect stays with the receiver, the determinant is at risk without the receiver
  pub orphan_bare : u ≤ spread → IsAtRiskWithoutReceiverAt n most past d u
  orphan_bare low = grind (arith, orphan_thin, false_from_ne_true (down_or_holding (instant past u) d d.dest.0), covered n most past k d spread u formed at departures within, has)

  -- and the receiver has not crashed since
  pub orphan_alive : u ≤ spread → (end c : ℕ) → u ≤ end → IsFirstCrash past d.dest.0 k end c → u ≤ c
  orphan_alive low end c bound first = grind (arith, cases_lt, crashed n past k d spread c u has.orphan formed at departures, first.found, first.after)

  -- so by the scan's result the delivery may be uncovered
  pub orphan_open : (end c : ℕ) (at_risk : AtRiskIntervals) → u ≤ end → IsFirstCrash past d.dest.0 k end c → at_risk.from ≤ k → AreAtRiskIntervals n most past d (end + 1) at_risk → MayBeOpen at_risk k spread c u
  orphan_open end c at_risk bound first from found =
      let after : at_risk.from < u = omega (arith, from, orphan_made) in
      let before : u < end + 1 = omega (arith, bound) in
      record {
        made = orphan_made;
        thin = found.last u after before orphan_thin;
        left = elim (cases_lt spread u) [
          | inl out ↦ inl out
          | inr inside ↦ inr (orphan_alive inside end c bound first, found.without_receiver u after before (orphan_bare inside))
        ];
      }

-- ==== the first position after each entry at which a message of its process is delivered, from the last entry to the
-- first

-- ---- the entry that delivers

pub delivers_entry : (past : List Entry) (j s : ℕ) (e : Entry) → entry_at past j ≡ Some e → Delivers past j s → is_delivery_of s e ≡ true
delivers_entry [] j s e at delivers = absurd delivers
delivers_entry (x ∷ past) j s e at (inl old) = grind (arith, delivers_entry past j s e, cond-false, delivers_below past j s old)
delivers_entry (x ∷ past) j s e at (inr new) = grind arith

-- ---- the write of a delivery in its send's slot

-- the value of a slot is then the position, or unchanged
noted_cases : (e : Entry) (i : ℕ) (list : List ℕ) (s : ℕ) → s < length list → (get_or (with_delivered e i list) s 0 ≡ i) ⊎ (get_or (with_delivered e i list) s 0 ≡ get_or list s 0)
noted_cases e i list s there = grind (arith, get_or-set_at, get_or-set_other)

noted_here : (e : Entry) (i : ℕ) (list : List ℕ) (s : ℕ) → is_delivery_of s e ≡ true → s < length list → get_or (with_delivered e i list) s 0 ≡ i
noted_here e i list s is there = grind (arith, get_or-set_at, eqb-true)

-- the write does not change the length
pub noted_length : (e : Entry) (i : ℕ) (list : List ℕ) → length (with_delivered e i list) ≡ length list
noted_length e i list = grind (arith, length-set)

-- ---- from the last entry to the first

-- the lists are correct for the entries from position i on
pub record AreSpreadsFrom (past : List Entry) (whose : ℕ → ℕ) (i : ℕ) (spreads lanes : List ℕ) : Type 0 where
  pub count : length spreads ≡ length past
  pub firsts : (s j : ℕ) → s < i → i ≤ j → Delivers past j s → get_or spreads s 0 ≤ j
  pub outs : (s j : ℕ) → i ≤ s → Delivers past j s → get_or lanes (whose s) 0 ≤ j
  pub each : (k s j : ℕ) → i ≤ k → k < length past → k ≤ s → whose s ≡ whose k → Delivers past j s → get_or spreads k 0 ≤ j

module _ (n : ℕ) (past : List Entry) (formed : AreLegalEntries n past) (whose : ℕ → ℕ) where
  after : (j s : ℕ) → Delivers past j s → s < j
  after j s = accepted_forward n past formed j s

  -- before any entry is processed
  pub spreads_begun : (i : ℕ) (spreads outs : List ℕ) → i ≡ length past → length spreads ≡ length past → AreSpreadsFrom past whose i spreads outs
  spreads_begun i spreads outs end count = grind (arith, delivers_below, after)

  module _ (i lane : ℕ) (e : Entry) (spreads outs : List ℕ) (at : entry_at past i ≡ Some e) (below : i < length past) (of : whose i ≡ lane) (there : lane < length outs) (before : AreSpreadsFrom past whose (i + 1) spreads outs) where
    abbrev noted : List ℕ
    noted = with_delivered e i spreads

    abbrev first : ℕ
    first = departure_at e i lane spreads outs

    long : length noted ≡ length past
    long = noted_length e i spreads ∙ before.count

    -- the written value is at or before each delivery from i on, if the old value is
    noted_low : (s j : ℕ) → s < length past → i ≤ j → get_or spreads s 0 ≤ j → get_or noted s 0 ≤ j
    noted_low s j inside up low = grind (arith, noted_cases)

    noted_first : (s j : ℕ) → s < i → i ≤ j → Delivers past j s → get_or noted s 0 ≤ j
    noted_first s j low up delivers = grind (arith, delivers_entry, noted_here, noted_low)

    outs_next : (s j : ℕ) → i ≤ s → Delivers past j s → get_or (slice_set outs lane first) (whose s) 0 ≤ j
    outs_next s j up delivers = grind (arith, get_or-set_at, after j s delivers, noted_low, get_or-set_other)

    -- with one more entry
    pub spreads_next : AreSpreadsFrom past whose i (slice_set noted i first) (slice_set outs lane first)
    spreads_next = grind (arith, length-set, long, get_or-set_other, noted_first, outs_next, get_or-set_at, noted_low, after)
