-- The sets of the entries of a walk, shared in slots.
use Rattle.std.specs.Prelude.{◌≡◌, ℕ, ◌<◌, ◌≤◌, Bool, true, List, [], ◌∷◌, length, map, slice_index_or}
use Rattle.causal_audit.specs.Inside.Common.{All, nat_cmp, FinSet, empty}

-- the maximum number of slots of a walk
abbrev pub max_slots : ℕ
max_slots = 4294967296

-- the set at an index; the empty set if there is none
abbrev pub row : List (FinSet nat_cmp) → ℕ → FinSet nat_cmp
row rows i = slice_index_or rows i empty

-- the sets at these slots
abbrev pub sets_of : List ℕ → List (FinSet nat_cmp) → List (FinSet nat_cmp)
sets_of slots sets = map (row sets) slots

-- each is the slot of a set; if they are apart, no two are equal except slot 0
pub record AreSlots (slots : List ℕ) (sets : List (FinSet nat_cmp)) (apart : Bool) : Type 0 where
  pub within : All (λ slot. slot < length sets) slots
  pub alone : apart ≡ true → (i j : ℕ) → i < length slots → j < length slots → 0 < slice_index_or slots i 0 → slice_index_or slots i 0 ≡ slice_index_or slots j 0 → i ≡ j

-- each is slot 0, the only slot, whose set is empty
pub record AreFirst (slots : List ℕ) (sets : List (FinSet nat_cmp)) : Type 0 where
  pub slots_are : All (λ slot. slot ≡ 0) slots
  pub sets_are : sets ≡ empty ∷ []

-- a slot contains this set
pub record IsAt (sets : List (FinSet nat_cmp)) (slot : ℕ) (places : FinSet nat_cmp) : Type 0 where
  pub inside : slot < length sets
  pub there : row sets slot ≡ places

-- a slot of `new` contains this set, and the other slots are unchanged
pub record IsSlotOf (old new : List (FinSet nat_cmp)) (places : FinSet nat_cmp) (slot : ℕ) : Type 0 where
  pub found : IsAt new slot places
  pub longer : length old ≤ length new
  pub kept : (s : ℕ) → s < length old → row new s ≡ row old s

-- that slot is a new one
pub record IsAdded (old new : List (FinSet nat_cmp)) (places : FinSet nat_cmp) (slot : ℕ) : Type 0 where
  pub slot_of : IsSlotOf old new places slot
  pub fresh : slot ≡ length old
