-- Happened-before (Lamport 1978) and the deliveries on which a process's state depends.
-- The dependence is that of Elnozahy, Alvisi, Wang and Johnson 2002.
use Rattle.std.specs.Prelude.{◌≡◌, ℕ, ◌<◌, Bool, true, false, ◌==◌, List, [], ◌∷◌, length, Option, Some, None, ◌⊎◌}
use Rattle.causal_trace.specs.declared.entry.Entry.{Entry}
use Rattle.causal_trace.specs.declared.entry.Entry.TheVariants.{Send, Deliver}
use Rattle.causal_trace.specs.Past.{is_down, lane}

-- the process of an event; the events are the sends and the deliveries
abbrev pub actor : Entry → Option ℕ
actor (Send from to ssn) = Some from.0
actor (Deliver to send rsn listed) = Some to.0
actor _ = None

-- whether the entry is a delivery of the message that the entry at position i sends
abbrev pub is_delivery_of : ℕ → Entry → Bool
is_delivery_of i (Deliver to send rsn listed) = send == i
is_delivery_of i _ = false

-- the entry at position i is an event of lane (incarnation) l of p
abbrev pub IsEventOf : List Entry → ℕ → ℕ → ℕ → Type 0
IsEventOf [] i p l = ⊥
IsEventOf (e ∷ past) i p l = IsEventOf past i p l ⊎ ((i ≡ length past) × (actor e ≡ Some p) × (lane past p ≡ l))

-- the entry at position j is a delivery of the message that the entry at position i sends
abbrev pub Delivers : List Entry → ℕ → ℕ → Type 0
Delivers [] j i = ⊥
Delivers (e ∷ past) j i = Delivers past j i ⊎ ((j ≡ length past) × (is_delivery_of i e ≡ true))

-- each delivery names an earlier position
abbrev pub AreForward : List Entry → Type 0
AreForward past = (j i : ℕ) → Delivers past j i → i < j

-- i directly precedes j: both are events of one lane, in this order, or j delivers what i sends
pub data DirectlyPrecedes (past : List Entry) (i j : ℕ) : Type 0 where
  in_order : (p l : ℕ) → i < j → IsEventOf past i p l → IsEventOf past j p l → DirectlyPrecedes past i j
  by_message : Delivers past j i → DirectlyPrecedes past i j

-- event i reaches j: i is j, or there is a path of direct precedence from i to j
pub data Reaches (past : List Entry) (i : ℕ) : ℕ → Type 0 where
  itself : (p l : ℕ) → IsEventOf past i p l → Reaches past i i
  onward : {j k : ℕ} → Reaches past i j → DirectlyPrecedes past j k → Reaches past i k

-- the state of p depends on delivery k: p is up, and k reaches an event of its present lane
pub record Depends (past : List Entry) (k p : ℕ) : Type 0 where
  pub up : is_down past p ≡ false
  pub event : ℕ
  pub present : IsEventOf past event p (lane past p)
  pub reached : Reaches past k event
