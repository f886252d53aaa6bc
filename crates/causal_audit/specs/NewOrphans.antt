-- The deliveries that one more entry may newly orphan.
use Rattle.std.specs.Prelude.{◌≡◌, ℕ, true, false, ◌⊎◌, List, ◌∷◌, Some}
use Rattle.causal_name.specs.declared.Pid.{Pid}
use Rattle.causal_name.specs.declared.Det.{Det}
use Rattle.causal_trace.specs.declared.entry.Entry.{Entry}
use Rattle.causal_trace.specs.declared.entry.Entry.TheVariants.{Send, Deliver, Stable, Crash, Restart, Forget}
use Rattle.causal_trace.specs.Past.{list_has, det_at}
use Rattle.causal_trace.specs.Rows.{AreLegalEntries}
use Rattle.causal_trace.specs.Dependence.{Depends}
use Rattle.causal_trace.specs.Judgement.{HasOrphan, IsOrphan}
use Rattle.causal_audit.specs.Laws.{down_or_holding}

-- the entry e may newly orphan the delivery at k with determinant d: e delivers to a process that newly depends on k,
-- restarts without listing d, or forgets d
abbrev pub MayGetOrphan : List Entry → Entry → ℕ → Det → Type 0
MayGetOrphan past (Deliver to send rsn listed) k d = Depends (Deliver to send rsn listed ∷ past) k to.0 × (Depends past k to.0 → ⊥)
MayGetOrphan past (Restart who listed) k d = list_has listed d ≡ false
MayGetOrphan past (Forget who listed) k d = list_has listed d ≡ true
MayGetOrphan past (Send from to ssn) k d = ⊥
MayGetOrphan past (Stable det) k d = ⊥
MayGetOrphan past (Crash who) k d = ⊥

-- the law: one more entry orphans no other delivery
abbrev pub NewOrphansLaw : Type 0
NewOrphansLaw =
    (n f : ℕ) (e : Entry) (past : List Entry) (k : ℕ) (d : Det) → AreLegalEntries n (e ∷ past) → det_at (e ∷ past) k ≡ Some d
    → HasOrphan n f (e ∷ past) k → HasOrphan n f past k ⊎ MayGetOrphan past e k d

-- the law: if a delivery entry newly orphans k, the entry's receiver is the only orphan
abbrev pub OneNewOrphan : Type 0
OneNewOrphan =
    (n f : ℕ) (past : List Entry) (k : ℕ) (d : Det) (to : Pid) (send rsn : ℕ) (listed : List Det) (p : ℕ)
    → AreLegalEntries n (Deliver to send rsn listed ∷ past) → det_at (Deliver to send rsn listed ∷ past) k ≡ Some d
    → HasOrphan n f (Deliver to send rsn listed ∷ past) k → (HasOrphan n f past k → ⊥)
    → IsOrphan n (Deliver to send rsn listed ∷ past) k (down_or_holding (Deliver to send rsn listed ∷ past) d) p → p ≡ to.0
