-- Facts about the entries of a well-formed run.
use Rattle.causal_audit.proofs.Common.{ℕ, ◌≡◌, ◌<◌, inl, inr, true, false, List, [], ◌∷◌, length, Option, Some, None, refl, arith, option_map_or, false≢true, eqb_tells, Pid, Det, Entry, Send, Deliver, is_down, lane, listed_in, listed_by, is_send_to, is_sent_to, det_of, det_at, first_fault, AreLegalEntries, actor, is_delivery_of, IsEventOf, Delivers, row_fails}
use Rattle.causal_audit.specs.Numbers.{is_delivery}
use Rattle.causal_trace.specs.Rows.{rows_within, refusal_rows}
use Rattle.causal_trace.specs.declared.fault.TraceFault.TheVariants.{NotUp}
use Rattle.causal_trace.proofs.Lemmas.EntryFacts.{delivery_sent}
use Rattle.causal_trace.proofs.Lemmas.WellFormed.{within_limits, limits}
use Rattle.causal_trace.proofs.Lemmas.RunProcesses.{send_inside, deliver_inside}

module _ (n : ℕ) (past : List Entry) where
  -- the sender of a send is up
  pub sends_up : (from to : Pid) (ssn : ℕ) → first_fault n past (Send from to ssn) ≡ None → is_down past from.0 ≡ false
  unfolding rows_within
  sends_up from to ssn legal = row_fails (refusal_rows n past (Send from to ssn)) legal 2 (is_down past from.0, NotUp) refl

  -- the run is below its maximum length before the entry
  pub entry_short : (e : Entry) → first_fault n past e ≡ None → length past < 16777216
  entry_short e legal = omega (arith, (limits (length past) (listed_in past) (length (listed_by e)) (within_limits n past e legal)).0)

-- the process of each event is a process of the run
pub event_inside : (n : ℕ) (past : List Entry) → AreLegalEntries n past → (i p l : ℕ) → IsEventOf past i p l → p < n
event_inside n [] h i p l at = absurd at
event_inside n (e ∷ past) h i p l at = grind (arith, event_inside n past h.0 i p l, send_inside, deliver_inside, h.1)

-- an entry that passes the check for a send to p is a send
pub sent_is : (p : ℕ) (o : Option Entry) → option_map_or (is_send_to p) o false ≡ true → (sender : Pid) × (to : Pid) × (ssn : ℕ) × (o ≡ Some (Send sender to ssn))
sent_is p o h = grind arith

-- a send is an event
sends_to : (past : List Entry) (p : ℕ) (e : Entry) → is_send_to p e ≡ true → (q : ℕ) × (actor e ≡ Some q)
sends_to past p (Send from to ssn) h = (from.0, refl)
sends_to past p e h = absurd (false≢true h)

pub sent_event : (past : List Entry) (send p : ℕ) → is_sent_to past send p ≡ true → (q : ℕ) × (l : ℕ) × IsEventOf past send q l
sent_event [] send p h = absurd (false≢true h)
sent_event (e ∷ past) send p h =
    elim (eqb_tells send (length past)) [
      | inl here ↦ let found = sends_to past p e (rw here.0 at h) in (found.0, lane past found.0, inr (here.1, found.1, refl))
      | inr there ↦ let found = sent_event past send p (rw there.0 at h) in (found.0, found.1, inl found.2)
    ]

-- an entry that delivers is an event
delivering : (i : ℕ) (e : Entry) → is_delivery_of i e ≡ true → (p : ℕ) × (actor e ≡ Some p)
delivering i (Deliver to send rsn listed) h = (to.0, refl)
delivering i e h = absurd (false≢true h)

-- the receiver of a message, as an event
pub receiver_event : (past : List Entry) (j i : ℕ) → Delivers past j i → (p : ℕ) × (l : ℕ) × IsEventOf past j p l
receiver_event [] j i h = absurd h
receiver_event (e ∷ past) j i (inl h) = let found = receiver_event past j i h in (found.0, found.1, inl found.2)
receiver_event (e ∷ past) j i (inr h) = let found = delivering i e h.1 in (found.0, lane past found.0, inr (h.0, found.1, refl))

-- and its sender
pub sender_event : (n : ℕ) (past : List Entry) → AreLegalEntries n past → (j i : ℕ) → Delivers past j i → (p : ℕ) × (l : ℕ) × IsEventOf past i p l
sender_event n [] h j i d = absurd d
sender_event n (e ∷ past) h j i (inl d) = let found = sender_event n past h.0 j i d in (found.0, found.1, inl found.2)
sender_event n (e ∷ past) h j i (inr d) = let sent = delivery_sent n past e i h.1 d.1 in let found = sent_event past i sent.0 sent.1 in (found.0, found.1, inl found.2)

-- an entry with a determinant is a delivery, and an event
pub det_delivers : (past : List Entry) (e : Entry) (d : Det) → det_of past e ≡ Some d → (p : ℕ) × (actor e ≡ Some p) × (is_delivery e ≡ true)
det_delivers past (Deliver to send rsn listed) d h = (to.0, refl, refl)
det_delivers past e d h = absurd (let k : None ≡ Some d = h in cc)

pub delivery_event : (past : List Entry) (k : ℕ) (d : Det) → det_at past k ≡ Some d → (p : ℕ) × (l : ℕ) × IsEventOf past k p l
delivery_event [] k d h = absurd (let e : None ≡ Some d = h in cc)
delivery_event (e ∷ past) k d h =
    elim (eqb_tells k (length past)) [
      | inl here ↦ let found = det_delivers past e d (rw here.0 at h) in (found.0, lane past found.0, inr (here.1, found.1, refl))
      | inr there ↦ let found = delivery_event past k d (rw there.0 at h) in (found.0, found.1, inl found.2)
    ]
