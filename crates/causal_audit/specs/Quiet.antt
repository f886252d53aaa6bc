-- The entries that do not change the state of a delivery, and the instants that agree because of them.
use Rattle.std.specs.Prelude.{◌≡◌, ℕ, ◌<◌, ◌≤◌, ◌↔◌, Bool, true, false, List, ◌∷◌, length, Some}
use Rattle.causal_name.specs.declared.Det.{Det}
use Rattle.causal_trace.specs.declared.entry.Entry.{Entry}
use Rattle.causal_trace.specs.declared.entry.Entry.TheVariants.{Crash, Restart}
use Rattle.causal_trace.specs.Past.{instant, entry_at, det_at, is_down, is_stable, logs, list_has, mentioned_dets}
use Rattle.causal_trace.specs.Rows.{AreLegalEntries}
use Rattle.causal_trace.specs.Dependence.{actor, Reaches, Depends}
use Rattle.causal_trace.specs.Judgement.{HasOrphan}

-- whether an entry is a crash or a restart
abbrev pub is_transition : Entry → Bool
is_transition (Crash who) = true
is_transition (Restart who listed) = true
is_transition _ = false

-- the next entry does not change the state of the delivery at k with determinant d: it is not a crash or restart and
-- does not mention d, and if k reaches it, its process depends on k already
pub record IsQuiet (past : List Entry) (e : Entry) (k : ℕ) (d : Det) : Type 0 where
  pub no_turn : is_transition e ≡ false
  pub unmentioned : list_has (mentioned_dets e) d ≡ false
  pub known : (p : ℕ) → actor e ≡ Some p → Reaches (e ∷ past) k (length past) → Depends past k p

-- each entry from position t to below u does not change the state
abbrev pub AreQuiet : List Entry → ℕ → ℕ → ℕ → Det → Type 0
AreQuiet past t u k d = (v : ℕ) (e : Entry) → t ≤ v → v < u → entry_at past v ≡ Some e → IsQuiet (instant past v) e k d

-- in two states the same processes are down, hold d and depend on k, and d is stable in both or in neither
pub record SameDeliveryState (one other : List Entry) (k : ℕ) (d : Det) : Type 0 where
  pub down : (p : ℕ) → is_down one p ≡ is_down other p
  pub logged : (p : ℕ) → logs one p d ≡ logs other p d
  pub stable : is_stable one d ≡ is_stable other d
  pub dependents : (p : ℕ) → Depends one k p ↔ Depends other k p

-- the law: two instants agree if no entry between them changes the state of the delivery
abbrev pub InstantsAgree : Type 0
InstantsAgree =
    (n : ℕ) (past : List Entry) (k : ℕ) (d : Det) (t u : ℕ) → AreLegalEntries n past
    → t ≤ u → u ≤ length past → AreQuiet past t u k d → SameDeliveryState (instant past t) (instant past u) k d

-- the law: after the delivery, it then has an orphan at both instants or at neither
abbrev pub OrphansAgree : Type 0
OrphansAgree =
    (n f : ℕ) (past : List Entry) (k : ℕ) (d : Det) (t u : ℕ) → AreLegalEntries n past → det_at past k ≡ Some d → k < t
    → t ≤ u → u ≤ length past → AreQuiet past t u k d → HasOrphan n f (instant past t) k ↔ HasOrphan n f (instant past u) k
