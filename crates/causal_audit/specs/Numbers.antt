-- The deliveries of a run by their numbers.
use Rattle.std.specs.Prelude.{◌≡◌, ℕ, ◌<◌, Bool, true, false, ◌⊎◌, List, [], ◌∷◌, length, slice_index}
use Rattle.causal_trace.specs.declared.entry.Entry.{Entry}
use Rattle.causal_trace.specs.declared.entry.Entry.TheVariants.{Deliver}
use Rattle.causal_trace.specs.Past.{deliveries_in}

-- whether an entry is a delivery
abbrev pub is_delivery : Entry → Bool
is_delivery (Deliver to send rsn listed) = true
is_delivery _ = false

-- the entry at position k is delivery number i: i deliveries precede it
abbrev pub IsNumbered : List Entry → ℕ → ℕ → Type 0
IsNumbered [] i k = ⊥
IsNumbered (e ∷ past) i k = IsNumbered past i k ⊎ ((k ≡ length past) × (is_delivery e ≡ true) × (i ≡ deliveries_in past))

-- the list contains the positions of all deliveries, in the order of their numbers
pub record ArePositions (past : List Entry) (positions : List ℕ) : Type 0 where
  pub count : length positions ≡ deliveries_in past
  pub each : (i : ℕ) → i < length positions → IsNumbered past i (slice_index positions i)
