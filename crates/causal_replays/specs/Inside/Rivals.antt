-- Different determinants with copies that fill one slot.
use Rattle.std.specs.Prelude.{◌≡◌, ℕ, ◌<◌, ◌⊎◌, Bool, true, List, Option, Some, None, IfSome}
use Rattle.std.specs.Global.{Vec}
use Rattle.causal_name.specs.declared.Det.{Det}
use Rattle.causal_name.specs.declared.Slot.{Slot}
use Rattle.causal_name.specs.Names.{slot_of}
use Rattle.causal_trace.specs.declared.entry.Entry.{Entry}
use Rattle.causal_trace.specs.Past.{det_at}
use Rattle.causal_replays.specs.Strays.{IsLower}
use Rattle.causal_replays.specs.declared.copies.CopyTable.{CopyTable}
use Rattle.causal_replays.specs.Inside.Copies.{number_in, HasCopy}
use Rattle.causal_replays.specs.Inside.Slots.{slot_number}

-- d has a number and a copy
abbrev pub IsCopied : List Entry → CopyTable → Det → Type 0
IsCopied whole c d = (i : ℕ) × (number_in whole d ≡ Some i) × HasCopy c i

-- the number at d's slot is d's
abbrev pub IsInSlot : List Entry → List (Vec (Option ℕ)) → Det → Type 0
IsInSlot whole slots d = (i : ℕ) → number_in whole d ≡ Some i → slot_number slots d.dest.0 d.rsn ≡ Some i

-- each number in the table is that of a determinant of its slot
abbrev pub AreOfSlots : List Entry → List (Vec (Option ℕ)) → Type 0
AreOfSlots whole slots = (p r j : ℕ) → slot_number slots p r ≡ Some j → (d : Det) × (number_in whole d ≡ Some j) × (d.dest.0 ≡ p) × (d.rsn ≡ r)

-- two different determinants with copies fill this slot
pub record AreRivals (whole : List Entry) (c : CopyTable) (s : Slot) (a b : Det) : Type 0 where
  pub one : IsCopied whole c a
  pub other : IsCopied whole c b
  pub one_fills : slot_of a ≡ s
  pub other_fills : slot_of b ≡ s
  pub differ : a ≡ b → ⊥

-- some two do
abbrev pub HasRivals : List Entry → CopyTable → Slot → Type 0
HasRivals whole c s = (a b : Det) × AreRivals whole c s a b

-- the slot is lower than the least one with rivals, if there is one
abbrev pub IsSlotBelow : Option Slot → Slot → Type 0
IsSlotBelow None s = Unit {0}
IsSlotBelow (Some least) s = IsLower s least

-- the determinants that pass a test are in their slots below the least one with rivals, where they have copies
pub record AreNoted (whole : List Entry) (c : CopyTable) (slots : List (Vec (Option ℕ))) (least : Option Slot) (test : Det → Bool) : Type 0 where
  pub of_slots : AreOfSlots whole slots
  pub in_slots : (d : Det) → test d ≡ true → IsCopied whole c d → IsSlotBelow least (slot_of d) → IsInSlot whole slots d
  pub rivals : IfSome least (HasRivals whole c)

-- the lower one of a slot and of the least so far
pub record IsLesser (least : Option Slot) (s lesser : Slot) : Type 0 where
  pub either : (lesser ≡ s) ⊎ (least ≡ Some lesser)
  pub own : IsLower s lesser → ⊥
  pub below : (t : Slot) → IsLower t lesser → IsSlotBelow least t

-- the delivery at position k has determinant d, which has a copy and fills this slot
pub record IsCopiedAt (whole : List Entry) (c : CopyTable) (s : Slot) (k : ℕ) (d : Det) : Type 0 where
  pub delivered : det_at whole k ≡ Some d
  pub copied : IsCopied whole c d
  pub fills : slot_of d ≡ s

-- each delivery before position `end` with a copied determinant of the slot has this one
abbrev pub AreAllOf : List Entry → CopyTable → Slot → ℕ → Option Det → Type 0
AreAllOf whole c s end known = (j : ℕ) (d : Det) → j < end → IsCopiedAt whole c s j d → known ≡ Some d

-- the first position with another
pub record IsFirstOther (whole : List Entry) (c : CopyTable) (s : Slot) (end : ℕ) (known : Option Det) (k : ℕ) (d : Det) : Type 0 where
  pub within : k < end
  pub here : IsCopiedAt whole c s k d
  pub other : known ≡ Some d → ⊥
  pub first : AreAllOf whole c s k known

-- the first position in the slot, and the first with a different determinant
pub record AreFirstTwo (whole : List Entry) (c : CopyTable) (s : Slot) (end k l : ℕ) : Type 0 where
  pub one : Det
  pub two : Det
  pub first : IsFirstOther whole c s end None k one
  pub second : IsFirstOther whole c s end (Some one) l two

-- two different determinants with copies fill the slot, and each has a delivery before `end`
pub record HaveTwo (whole : List Entry) (c : CopyTable) (s : Slot) (end : ℕ) : Type 0 where
  pub one : Det
  pub two : Det
  pub at : ℕ
  pub also_at : ℕ
  pub early : at < end
  pub also_early : also_at < end
  pub first : IsCopiedAt whole c s at one
  pub second : IsCopiedAt whole c s also_at two
  pub differ : one ≡ two → ⊥
