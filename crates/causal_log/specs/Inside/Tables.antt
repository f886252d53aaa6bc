-- A table of log entries in insertion order, keyed by slot and number, with reserved capacity.
use Rattle.std.specs.Prelude.{◌≡◌, ◌==◌, ◌&&◌, ℕ, Bool, ◌+◌, ◌*◌, ◌%◌, ◌^◌, ◌<◌, ◌≤◌, All, List, Option, Some, None, false, nat_lt, length, refl}
use Rattle.std.specs.Coded.{Coded, code_by, coded×, coded_list, coded_ℕ}
use Rattle.std.specs.List.{IsDistinct}
use Rattle.std.specs.Map.{keys_of, values_of}
use Rattle.causal_name.specs.declared.Det.{Det}
use Rattle.causal_name.specs.declared.Slot.{Slot}
use Rattle.causal_name.specs.Names.{same_det, same_pid, same_slot, slot_of}
use Rattle.causal_log.specs.Knowledge.{coded_det, coded_known}
use Rattle.causal_log.specs.declared.known.Known.{Known}
use Rattle.causal_log.specs.declared.limits.TheConstants.{MAX_LOGGED}
use Rattle.causal_log.specs.declared.table.SlotKey.{SlotKey}

-- what contracts see of a table: its entries, and how many more it can take without allocation
pub record TableState : Type 0 where
  pub entries : List (Det × Known)
  pub spare : ℕ

abbrev pub coded_table : Coded TableState
coded_table =
    code_by (List (Det × Known) × ℕ) (coded× (coded_list (coded× coded_det coded_known)) coded_ℕ)
    (λ t. (t.entries, t.spare)) (λ p. record { entries = p.0; spare = p.1 }) (λ _. refl)

-- the key of a slot's entry with this number
abbrev pub slot_key : Slot → ℕ → SlotKey
slot_key slot number = record { slot = slot; number = number }

-- the word by which a key is hashed
abbrev pub key_word : SlotKey → ℕ
key_word key = (key.slot.dest.0 * 4294967296 + key.slot.rsn + (key.number * 1099511627776) % 2 ^ 64) % 2 ^ 64

-- two keys are equal
abbrev pub same_slot_key : SlotKey → SlotKey → Bool
same_slot_key p q = same_slot p.slot q.slot && p.number == q.number

-- the key of an entry has its determinant's slot, and a number below `numbers`
pub record HasSlotKey (numbers : ℕ) (e : SlotKey × (Det × Known)) : Type 0 where
  pub slot : e.0.slot ≡ slot_of e.1.0
  pub number : e.0.number < numbers

-- whether a slot is later than the last one that is kept, and of the same process
abbrev pub is_later : Option Slot → Slot → Bool
is_later None slot = false
is_later (Some last) slot = same_pid slot.dest last.dest && nat_lt last.rsn slot.rsn

-- the slot of an entry's key is no later one
abbrev pub IsNotLater : Option Slot → SlotKey × (Det × Known) → Type 0
IsNotLater last e = is_later last e.0.slot ≡ false

-- the invariant of a table: distinct determinants, each with a key of its slot and none later than the last slot that is
-- kept, and capacity for the reserved entries
pub record IsTable (entries : List (SlotKey × (Det × Known))) (numbers : ℕ) (last : Option Slot) (room spare : ℕ) : Type 0 where
  pub distinct : IsDistinct same_det (keys_of (values_of entries))
  pub keyed : All (HasSlotKey numbers) entries
  pub ended : All (IsNotLater last) entries
  pub few : length entries + room ≤ MAX_LOGGED
  pub numbers_fit : numbers ≤ MAX_LOGGED
  pub entries_fit : room ≤ spare
