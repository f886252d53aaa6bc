-- The state of one delivery at an instant, its change by one entry, and its orphan.
use Rattle.std.specs.Prelude.{◌≡◌, ℕ, ◌↔◌, Bool, true, false, List, ◌∷◌, length, Option, Some, MatchOption, ◌<◌}
use Rattle.causal_audit.specs.Inside.Common.{nat_cmp, FinSet, contains, Det, Entry, det_at, list_has, is_down, logs, is_stable, AreLegalEntries, HasOrphan, actor, Reaches, Depends}
use Rattle.causal_audit.specs.declared.delivery_state.DeliveryState.{DeliveryState}
use Rattle.causal_audit.specs.declared.delivery_state.CrashSetAndOrphan.{CrashSetAndOrphan}
use Rattle.causal_trace.specs.Past.{mentioned_dets}
use Rattle.causal_audit.specs.Verdicts.{IsLeastOrphan}
use Rattle.causal_audit.specs.declared.breach.Breach.{Breach}

-- the set contains exactly the numbers that pass the test
abbrev pub HasExactly : FinSet nat_cmp → (ℕ → Bool) → Type 0
HasExactly set test = (p : ℕ) → contains set p ≡ test p

-- the set contains exactly the processes that depend on the delivery at position k
abbrev pub AreDependents : List Entry → ℕ → FinSet nat_cmp → Type 0
AreDependents past k set = (p : ℕ) → (contains set p ≡ true) ↔ Depends past k p

-- if the next entry is an event, `reached` is whether k reaches it
abbrev pub IsNextReached : List Entry → Entry → ℕ → Bool → Type 0
IsNextReached past e k reached = (p : ℕ) → actor e ≡ Some p → (reached ≡ true) ↔ Reaches (e ∷ past) k (length past)

-- s is the state of the delivery at position k with determinant d
pub record IsDeliveryState (past : List Entry) (k : ℕ) (d : Det) (s : DeliveryState) : Type 0 where
  pub down : HasExactly s.down (λ p. is_down past p)
  pub holders : HasExactly s.holders (λ p. logs past p d)
  pub stable : s.stable ≡ is_stable past d
  pub dependents : AreDependents past k s.dependents

-- no process holds d, d is not stable, and no process depends on the delivery at position k
pub record IsUnknownToAll (past : List Entry) (k : ℕ) (d : Det) : Type 0 where
  pub unlogged : (p : ℕ) → logs past p d ≡ false
  pub unstable : is_stable past d ≡ false
  pub independent : (p : ℕ) → Depends past k p → ⊥

-- if `before` is the set of down processes, `after` is that set after one more entry
abbrev pub ShowsDownAfter : Entry → FinSet nat_cmp → FinSet nat_cmp → Type 0
ShowsDownAfter e before after = (past : List Entry) → HasExactly before (λ p. is_down past p) → HasExactly after (λ p. is_down (e ∷ past) p)

-- under a condition, if `before` is the set of holders of d, `after` is that set after one more entry
abbrev pub ShowsHoldersAfter : Type 0 → Entry → Det → FinSet nat_cmp → FinSet nat_cmp → Type 0
ShowsHoldersAfter When e d before after =
    (past : List Entry) → When → HasExactly before (λ p. logs past p d) → HasExactly after (λ p. logs (e ∷ past) p d)

-- if `before` is the set of dependents of a delivery, `after` is that set after one more entry; `reached`: k reaches
-- the entry
abbrev pub ShowsDependentsAfter : Entry → Bool → FinSet nat_cmp → FinSet nat_cmp → Type 0
ShowsDependentsAfter e reached before after =
    (n : ℕ) (past : List Entry) (k : ℕ) → AreLegalEntries n (e ∷ past) → IsNextReached past e k reached
    → AreDependents past k before → AreDependents (e ∷ past) k after

-- s is the initial state of each delivery whose determinant no process holds and on which no process depends
abbrev pub IsInitialState : FinSet nat_cmp → DeliveryState → Type 0
IsInitialState down s = (past : List Entry) (k : ℕ) (d : Det) → HasExactly down (λ p. is_down past p) → IsUnknownToAll past k d → IsDeliveryState past k d s

-- if `before` is whether a determinant is stable, `after` is that after one more entry; `mentioned_dets`: the entry mentions
-- it
abbrev pub ShowsStableAfter : Entry → Bool → Bool → Bool → Type 0
ShowsStableAfter e mentioned before after =
    (past : List Entry) (d : Det) → mentioned ≡ list_has (mentioned_dets e) d → before ≡ is_stable past d → after ≡ is_stable (e ∷ past) d

-- if `before` is the state of a delivery, `after` is its state after one more entry; `mentioned_dets`: the entry mentions
-- the determinant; `reached`: the delivery reaches the entry
abbrev pub IsStateAfter : Entry → Bool → Bool → DeliveryState → DeliveryState → Type 0
IsStateAfter e mentioned reached before after =
    (n : ℕ) (past : List Entry) (k : ℕ) (d : Det) → AreLegalEntries n (e ∷ past) → mentioned ≡ list_has (mentioned_dets e) d
    → IsNextReached past e k reached → IsDeliveryState past k d before → IsDeliveryState (e ∷ past) k d after

-- the smallest crash set that orphans each delivery in this state, and its least orphan; None if there is no orphan
abbrev pub FindsLeastOrphan : ℕ → DeliveryState → Option CrashSetAndOrphan → Type 0
FindsLeastOrphan f s found =
    (n : ℕ) (past : List Entry) (k : ℕ) (d : Det) → AreLegalEntries n past → det_at past k ≡ Some d → IsDeliveryState past k d s
    → MatchOption found (HasOrphan n f past k → ⊥) (λ x. IsLeastOrphan n f past k x.crash x.orphan)

-- the breach at the instant t of the delivery at position k, in the state after these entries; None if it has no orphan
abbrev pub BreachAt : ℕ → ℕ → List Entry → ℕ → ℕ → Option Breach → Type 0
BreachAt n f past k t found = MatchOption found
    (HasOrphan n f past k → ⊥)
    (λ b. (b.instant ≡ t) × (b.delivery ≡ k) × IsLeastOrphan n f past k b.crash b.orphan)

-- the breach at the instant t of each delivery at position k whose state this is; None if it has no orphan
abbrev pub IsBreachForState : ℕ → ℕ → ℕ → DeliveryState → Option Breach → Type 0
IsBreachForState f k t s found =
    (n : ℕ) (past : List Entry) (d : Det) → AreLegalEntries n past → length past ≡ t → (k < t → det_at past k ≡ Some d)
    → IsDeliveryState past k d s → BreachAt n f past k t found
