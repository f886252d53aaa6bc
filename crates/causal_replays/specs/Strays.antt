-- The first instant at which two different determinants that survive fill one slot, with the least slot and deliveries.
use Rattle.std.specs.Prelude.{◌≡◌, ℕ, ◌<◌, ◌≤◌, ◌⊎◌, true, List, length, Some}
use Rattle.causal_name.specs.declared.Det.{Det}
use Rattle.causal_name.specs.declared.Slot.{Slot}
use Rattle.causal_name.specs.Names.{slot_of}
use Rattle.causal_trace.specs.declared.entry.Entry.{Entry}
use Rattle.causal_trace.specs.Past.{instant, det_at}
use Rattle.causal_trace.specs.Rows.{Recording}
use Rattle.causal_trace.specs.Survivors.{survives, SlotsAreSingle}
use Rattle.causal_facts.specs.declared.stray.Stray.{Stray}

-- one slot precedes another, by receiver, then receive sequence number
abbrev pub IsLower : Slot → Slot → Type 0
IsLower a b = (a.dest.0 < b.dest.0) ⊎ ((a.dest.0 ≡ b.dest.0) × (a.rsn < b.rsn))

-- the delivery at position k has determinant d, which survives and fills this slot
pub record FillsSlot (n : ℕ) (past : List Entry) (s : Slot) (k : ℕ) (d : Det) : Type 0 where
  pub delivered : det_at past k ≡ Some d
  pub alive : survives n past d ≡ true
  pub fills : slot_of d ≡ s

-- the first delivery in this slot of a determinant that survives, at k, and the first of a different one, at l
pub record FirstTwo (n : ℕ) (past : List Entry) (s : Slot) (k l : ℕ) : Type 0 where
  pub one : Det
  pub other : Det
  pub first : FillsSlot n past s k one
  pub second : FillsSlot n past s l other
  pub differ : one ≡ other → ⊥
  pub order : k < l
  pub none_before : (j : ℕ) (d : Det) → FillsSlot n past s j d → k ≤ j
  pub none_between : (j : ℕ) (d : Det) → FillsSlot n past s j d → j < l → d ≡ one

-- in each lower slot at most one determinant survives
abbrev pub LowerAreSingle : ℕ → List Entry → Slot → Type 0
LowerAreSingle n past s = (a b : Det) → survives n past a ≡ true → survives n past b ≡ true → slot_of a ≡ slot_of b → IsLower (slot_of a) s → a ≡ b

-- the first instant with two different survivors in one slot, the least such slot, and their first deliveries
pub record IsFirstStray (r : Recording) (stray : Stray) : Type 0 where
  pub within : stray.instant ≤ length r.past
  pub earlier : (t : ℕ) → t < stray.instant → SlotsAreSingle r.processes (instant r.past t)
  pub lower : LowerAreSingle r.processes (instant r.past stray.instant) stray.slot
  pub pair : FirstTwo r.processes (instant r.past stray.instant) stray.slot stray.first stray.second
