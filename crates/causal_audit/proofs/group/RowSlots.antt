-- The sets of the entries of a walk, shared in slots.
use Rattle.std.proofs.lemmas.Grind.{common_steps}
use Rattle.causal_audit.proofs.Common.{ℕ, ◌≡◌, ◌<◌, ◌≤◌, Bool, true, List, [], ◌∷◌, ◌++◌, length, refl, sym, ap, ◌∙◌, arith, All, set, get_or, nat_cmp, FinSet, empty, get_or_default, insert, get_or-map, get_or-set_same, get_or-set_other, get_or-append_seam, get_or-eq_default, length-map, length-set, length-append, map-set}
use Rattle.std.proofs.lemmas.List.{ext_get_or}
use Rattle.causal_audit.specs.Inside.Group.Rows.{AreFirst, AreSlots, IsAdded, IsAt, IsSlotOf, row, sets_of}

abbrev Sets : Type 0
Sets = List (FinSet nat_cmp)

-- ---- reads

-- the set of an entry is that of its slot
pub read_slot : (slots : List ℕ) (sets : Sets) (i : ℕ) → i < length slots → row (sets_of slots sets) i ≡ row sets (get_or slots i 0)
read_slot slots sets i low = get_or-map (row sets) slots i 0 empty low

-- there is no set after the last entry
pub read_past : (slots : List ℕ) (sets : Sets) (i : ℕ) → length slots ≤ i → row (sets_of slots sets) i ≡ empty
read_past slots sets i past = get_or-eq_default (sets_of slots sets) empty (omega (arith, past, length-map slots (row sets)))

-- if the old sets are unchanged, the set of each entry is unchanged
kept_sets : (slots : List ℕ) (old new : Sets) → All (λ slot. slot < length old) slots → ((s : ℕ) → s < length old → row new s ≡ row old s) → sets_of slots new ≡ sets_of slots old
kept_sets slots old new within kept =
    ext_get_or empty (sets_of slots new) (sets_of slots old) (length-map slots (row new) ∙ sym (length-map slots (row old))) (λ i low.
    grind (arith, read_slot slots new i, read_slot slots old i, length-map slots (row new), within i 0, kept (get_or slots i 0)))

-- ---- the slot of a set

-- a slot that contains the set already
pub slot_found : (sets : Sets) (places : FinSet nat_cmp) (slot : ℕ) → IsAt sets slot places → IsSlotOf sets sets places slot
slot_found sets places slot is = record { found = is; longer = omega arith; kept = λ s low. refl }

-- a slot for a new set
pub slot_added : (old : Sets) (places : FinSet nat_cmp) → IsAdded old (old ++ places ∷ []) places (length old)
slot_added old places = grind (arith, common_steps, length-append, get_or-append_seam)

-- ---- a write of an entry's slot

-- the entry has the set of the slot, and the others are unchanged
pub stored : (slots : List ℕ) (old new : Sets) (places : FinSet nat_cmp) (i slot : ℕ) → All (λ s. s < length old) slots → IsSlotOf old new places slot → sets_of (set slots i slot) new ≡ set (sets_of slots old) i places
stored slots old new places i slot within is = grind (arith, map-set (row new) slots i slot, kept_sets slots old new within is.kept)

-- ---- a write of the set in a slot

-- if only one entry has that slot, only this entry's set changes
pub put_alone : (slots : List ℕ) (sets : Sets) (apart : Bool) (i slot : ℕ) (places : FinSet nat_cmp) → apart ≡ true → i < length slots → get_or slots i 0 ≡ slot → 0 < slot → AreSlots slots sets apart
    → sets_of slots (set sets slot places) ≡ set (sets_of slots sets) i places
put_alone slots sets apart i slot places holds inside at more are =
    ext_get_or empty (sets_of slots (set sets slot places)) (set (sets_of slots sets) i places)
    (length-map slots (row (set sets slot places)) ∙ sym (length-set (sets_of slots sets) i places ∙ length-map slots (row sets))) (λ k below.
    grind (arith, read_slot slots (set sets slot places) k, read_slot slots sets k, length-map, get_or-set_same, get_or-set_other, are.within i 0, are.alone holds k i))

-- ---- a place is added to a set

-- the slot of an entry, from the read
slot_read : (slots : List ℕ) (sets : Sets) (i s : ℕ) → i < length (sets_of slots sets) → s ≡ get_or slots i s → get_or slots i 0 ≡ s
slot_read slots sets i s low is = sym (is ∙ get_or_default slots i s 0 (omega (arith, low, length-map slots (row sets))))

-- its set
set_read : (slots : List ℕ) (sets : Sets) (i s : ℕ) → i < length (sets_of slots sets) → s ≡ get_or slots i s → row sets s ≡ row (sets_of slots sets) i
set_read slots sets i s low is = sym (read_slot slots sets i (omega (arith, low, length-map slots (row sets))) ∙ ap (row sets) (slot_read slots sets i s low is))

-- the slot is one of a set
pub slot_within : (slots : List ℕ) (sets : Sets) (apart : Bool) (i s : ℕ) → i < length (sets_of slots sets) → s ≡ get_or slots i s → AreSlots slots sets apart → s < length sets
slot_within slots sets apart i s low is are = grind (arith, length-map slots (row sets), slot_read slots sets i s low is)

-- in the entry's own slot
pub placed_alone : (slots : List ℕ) (sets : Sets) (apart : Bool) (i s place : ℕ) (places : FinSet nat_cmp) → apart ≡ true → i < length (sets_of slots sets) → s ≡ get_or slots i s → 0 < s → AreSlots slots sets apart
    → places ≡ insert (row sets s) place → sets_of slots (set sets s places) ≡ set (sets_of slots sets) i (insert (row (sets_of slots sets) i) place)
placed_alone slots sets apart i s place places holds low is more are has = grind (arith, put_alone, length-map, slot_read, set_read)

-- in a new slot
pub placed_fresh : (slots : List ℕ) (old new : Sets) (apart : Bool) (i s place slot : ℕ) (places : FinSet nat_cmp) → i < length (sets_of slots old) → s ≡ get_or slots i s → AreSlots slots old apart → IsSlotOf old new places slot
    → places ≡ insert (row old s) place → sets_of (set slots i slot) new ≡ set (sets_of slots old) i (insert (row (sets_of slots old) i) place)
placed_fresh slots old new apart i s place slot places low is are added has = grind (arith, stored, set_read)

-- ---- a new walk

-- without entries
pub slots_none : (slots : List ℕ) (sets : Sets) (apart : Bool) → slots ≡ [] → AreSlots slots sets apart
slots_none slots sets apart none = grind arith

-- entries that all have slot 0 have no places
pub first_empty : (slots : List ℕ) (sets : Sets) → AreFirst slots sets → (i : ℕ) → row (sets_of slots sets) i ≡ empty
first_empty slots sets are i = grind (arith, read_slot, read_past)
