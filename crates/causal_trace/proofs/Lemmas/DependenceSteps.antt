-- How one more entry changes dependence.
use Rattle.std.proofs.Common.{ℕ, ◌≡◌, ◌+◌, ◌<◌, ◌≤◌, inl, inr, true, false, List, [], ◌∷◌, length, Some, None, subst, arith}
use Rattle.std.specs.Prelude.{◌⊎◌}
use Rattle.causal_trace.specs.declared.entry.Entry.{Entry}
use Rattle.causal_trace.specs.Past.{is_down, lane}
use Rattle.causal_trace.specs.Dependence.{AreForward, actor, is_delivery_of, IsEventOf, Delivers, DirectlyPrecedes, in_order, by_message, Reaches, itself, onward, Depends}

-- the position of an event is below the length of the past
pub event_below : (past : List Entry) (i p l : ℕ) → IsEventOf past i p l → i < length past
event_below [] i p l h = absurd h
event_below (e ∷ past) i p l h = grind (arith, event_below past i p l)

-- an event belongs to one lane only
pub event_once : (past : List Entry) (i p l q m : ℕ) → IsEventOf past i p l → IsEventOf past i q m → (p ≡ q) × (l ≡ m)
event_once [] i p l q m a b = absurd a
event_once (e ∷ past) i p l q m a b = grind (arith, event_once past i p l q m, event_below)

-- no event belongs to a future lane
pub event_lane : (past : List Entry) (i p l : ℕ) → IsEventOf past i p l → l ≤ lane past p
event_lane [] i p l h = absurd h
event_lane (e ∷ past) i p l h = grind (arith, event_lane past i p l)

-- an event other than the newest is an event of the past without the newest entry
pub event_old : (e : Entry) (past : List Entry) (i p l : ℕ) → i < length past → IsEventOf (e ∷ past) i p l → IsEventOf past i p l
event_old e past i p l below h = grind arith

-- the position of a delivery is below the length of the past
pub delivers_below : (past : List Entry) (j i : ℕ) → Delivers past j i → j < length past
delivers_below [] j i h = absurd h
delivers_below (e ∷ past) j i h = grind (arith, delivers_below past j i)

-- a delivery other than the newest is a delivery of the past without the newest entry
pub delivers_old : (e : Entry) (past : List Entry) (j i : ℕ) → j < length past → Delivers (e ∷ past) j i → Delivers past j i
delivers_old e past j i below h = grind arith

-- an event that directly precedes another is earlier
pub precedes_before : (past : List Entry) (i j : ℕ) → AreForward past → DirectlyPrecedes past i j → i < j
precedes_before past i j forward h = grind arith

-- direct precedence to an event other than the newest holds without the newest entry
pub precedes_old : (e : Entry) (past : List Entry) (i j : ℕ) → j < length past → DirectlyPrecedes (e ∷ past) i j → DirectlyPrecedes past i j
precedes_old e past i j below (in_order p l h a b) = in_order p l h (event_old e past i p l (omega (arith, below, h)) a) (event_old e past j p l below b)
precedes_old e past i j below (by_message h) = by_message (delivers_old e past j i below h)

-- an event that directly precedes another still does with one more entry
pub precedes_more : (e : Entry) (past : List Entry) (i j : ℕ) → DirectlyPrecedes past i j → DirectlyPrecedes (e ∷ past) i j
precedes_more e past i j (in_order p l h a b) = in_order p l h (inl a) (inl b)
precedes_more e past i j (by_message h) = by_message (inl h)

-- the newest entry changes nothing between earlier events
pub reaches_old : (e : Entry) (past : List Entry) (i : ℕ) → AreForward (e ∷ past) → (j : ℕ) → j < length past → Reaches (e ∷ past) i j → Reaches past i j
reaches_old e past i forward j below (itself p l at) = itself p l (event_old e past i p l below at)
reaches_old e past i forward k below (onward {j} r d) =
    onward (reaches_old e past i forward j (let h : j < k = precedes_before (e ∷ past) j k forward d in omega (arith, below, h)) r) (precedes_old e past j k below d)

-- an event that reaches another is in the past
pub reaches_begins : (past : List Entry) (i j : ℕ) → Reaches past i j → i < length past
reaches_begins past i j (itself p l at) = event_below past i p l at
reaches_begins past i j (onward {j = h} r d) = reaches_begins past i h r

-- how an event reaches the newest one
pub data ReachesNewest (e : Entry) (past : List Entry) (i p : ℕ) : Type 0 where
  is_newest : i ≡ length past → ReachesNewest e past i p
  in_lane : (j : ℕ) → IsEventOf past j p (lane past p) → Reaches past i j → ReachesNewest e past i p
  through_message : (j : ℕ) → is_delivery_of j e ≡ true → Reaches past i j → ReachesNewest e past i p

-- an event that reaches the newest one is it, or reaches an event of its lane or the send of its message
pub reaches_newest : (e : Entry) (past : List Entry) (i p k : ℕ) → AreForward (e ∷ past) → k ≡ length past → actor e ≡ Some p → Reaches (e ∷ past) i k → ReachesNewest e past i p
reaches_newest e past i p k forward is who (itself q l at) = is_newest is
reaches_newest e past i p k forward is who (onward {j} r (in_order q l h a b)) =
    in_lane j (grind (arith, event_below, event_old)) (reaches_old e past i forward j (omega (arith, h, is)) r)
reaches_newest e past i p k forward is who (onward {j} r (by_message h)) =
    through_message j (grind (arith, delivers_below)) (reaches_old e past i forward j (omega (arith, forward k j h, is)) r)

-- a process that depends on k after one more entry did before, or the entry is its event and k reaches that
pub depends_old : (e : Entry) (past : List Entry) (k p : ℕ) → AreForward (e ∷ past) → is_down past p ≡ false → lane (e ∷ past) p ≡ lane past p → Depends (e ∷ past) k p → Depends past k p ⊎ ((actor e ≡ Some p) × ReachesNewest e past k p)
depends_old e past k p forward up same d = go d.present
  where
    go : IsEventOf (e ∷ past) d.event p (lane (e ∷ past) p) → Depends past k p ⊎ ((actor e ≡ Some p) × ReachesNewest e past k p)
    go (inl h) = inl (record { up = up; event = d.event; present = subst (λ l. IsEventOf past d.event p l) same h; reached = reaches_old e past k forward d.event (event_below past d.event p (lane (e ∷ past) p) h) d.reached })
    go (inr h) = inr (h.1, reaches_newest e past k p d.event forward h.0 h.1 d.reached)

-- a process in a new lane depends on nothing
pub depends_restarted : (e : Entry) (past : List Entry) (k p : ℕ) → lane (e ∷ past) p ≡ lane past p + 1 → actor e ≡ None → Depends (e ∷ past) k p → ⊥
depends_restarted e past k p more none d = grind (arith, event_lane)
