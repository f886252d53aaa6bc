-- What every legal step preserves, and why no crash that f allows leaves an orphan.
-- After causal message logging of Alvisi and Marzullo 1998; here at most f processes are down together, others go on
-- while one recovers, and a log may forget what is stable.
use Rattle.std.specs.Prelude.{◌≡◌, ℕ, ◌<◌, ◌≤◌, true, List, length, Some, ◌⊎◌}
use Rattle.causal_name.specs.declared.Det.{Det}
use Rattle.causal_name.specs.Sets.{count_below}
use Rattle.causal_trace.specs.declared.entry.Entry.{Entry}
use Rattle.causal_trace.specs.Past.{is_down, logs, is_stable, det_at, is_delivered}
use Rattle.causal_trace.specs.Dependence.{Reaches, Depends}
use Rattle.causal_steps.specs.Recovery.{must_recover, IsRecoverable, HasOrRecovers}
use Rattle.causal_steps.specs.Transit.{TransitParcel, VolatileState, IsInTransit, Survives}

-- no two determinants that survive share a slot: a receiver's next delivery is named by one message at most
abbrev pub NoSlotIsShared : ℕ → List Entry → VolatileState → Type 0
NoSlotIsShared n past v = (a b : Det) → Survives n past v a → Survives n past v b → a.dest ≡ b.dest → a.rsn ≡ b.rsn → a ≡ b

-- the invariant of the legal steps
pub record StepInvariant (n f : ℕ) (past : List Entry) (v : VolatileState) : Type 0 where
  -- at most f processes are down
  pub few_down : count_below n (is_down past) ≤ f
  -- a known holder of d counts as one, or d is stable
  pub known_holders_true : (p : ℕ) (d : Det) (q : ℕ) → p < n → v.knows_holder p d q ≡ true → HasOrRecovers past d q
  -- so does a holder that something in transit names
  pub carried_holders_true : (t : TransitParcel) (d : Det) (q : ℕ) → IsInTransit v t → t.names_holder d q ≡ true → HasOrRecovers past d q
  -- the receiver of a delivery, up or down, counts as a holder of what survives of it, or that is stable
  pub receivers_have_survivors : (d : Det) → Survives n past v d → HasOrRecovers past d d.dest.0
  -- what a process knows to be stable is stable
  pub known_stable_true : (p : ℕ) (d : Det) → p < n → v.knows_stable p d ≡ true → is_stable past d ≡ true
  -- so is what something in transit calls stable
  pub carried_stable_true : (t : TransitParcel) (d : Det) → IsInTransit v t → t.names_stable d ≡ true → is_stable past d ≡ true
  -- who depends on a delivery logs its determinant, or no crash that f allows can lose it
  pub dependents_log : (i p : ℕ) (d : Det) → p < n → det_at past i ≡ Some d → Depends past i p → (logs past p d ≡ true) ⊎ IsRecoverable n f past d
  -- a message in transit carries the determinant of each delivery that its send depends on, or no crash that f allows
  -- can lose that
  pub messages_carry : (i m : ℕ) (t : TransitParcel) (d : Det) → det_at past i ≡ Some d → IsInTransit v t → t.send ≡ Some m → Reaches past i m → (t.carries d ≡ true) ⊎ IsRecoverable n f past d
  -- no two determinants that survive share a slot
  pub no_slot_shared : NoSlotIsShared n past v
  -- what survives is the determinant of a delivery so far
  pub survivors_delivered : (d : Det) → Survives n past v d → is_delivered past d ≡ true
  -- a known holder is a process, and of what it logs alone a process knows holders
  pub known_logged : (p : ℕ) (d : Det) (q : ℕ) → p < n → v.knows_holder p d q ≡ true → (q < n) × (logs past p d ≡ true)
  -- a named holder is a process, and of what it carries alone something in transit names holders
  pub named_is_carried : (t : TransitParcel) (d : Det) (q : ℕ) → IsInTransit v t → t.names_holder d q ≡ true → (q < n) × (t.carries d ≡ true)
  -- a process knows that it holds what it logs
  pub knows_itself : (p : ℕ) (d : Det) → p < n → logs past p d ≡ true → v.knows_holder p d p ≡ true
  -- something in transit names its sender as a holder of what it carries
  pub names_sender : (t : TransitParcel) (d : Det) → IsInTransit v t → t.carries d ≡ true → t.names_holder d t.from ≡ true
  -- a message in transit was sent
  pub sent_before : (m : ℕ) (t : TransitParcel) → IsInTransit v t → t.send ≡ Some m → m < length past
  -- a process that has to recover something is down
  pub recovering_are_down : (p : ℕ) (d : Det) → must_recover past p d ≡ true → is_down past p ≡ true
