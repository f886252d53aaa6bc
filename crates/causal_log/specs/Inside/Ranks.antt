-- Membership, the least determinant of a slot, and ranks, for determinants in any order.
use Rattle.std.specs.Prelude.{◌≡◌, ◌⊎◌, ◌==◌, ℕ, Bool, true, false, cond, List, Option, Some, None, filter, length}
use Rattle.std.specs.List.{list_any}
use Rattle.causal_name.specs.declared.Det.{Det}
use Rattle.causal_name.specs.declared.Pid.{Pid}
use Rattle.causal_name.specs.Names.{same_det, is_before}
use Rattle.causal_log.specs.declared.known.Known.{Known}
use Rattle.causal_log.specs.Slots.{is_of_slot}

-- a determinant is in a list
abbrev pub IsAmong : Det → List Det → Type 0
IsAmong q dets = list_any (same_det q) dets ≡ true

-- the least determinant of a list that fills the slot, if one does
abbrev pub IsLeastOfSlot : Pid → ℕ → List Det → Option Det → Type 0
IsLeastOfSlot dest rsn dets None = (q : Det) → IsAmong q dets → is_of_slot dest rsn q ≡ false
IsLeastOfSlot dest rsn dets (Some d) =
    (is_of_slot dest rsn d ≡ true) × IsAmong d dets
    × ((q : Det) → IsAmong q dets → is_of_slot dest rsn q ≡ true → (d ≡ q) ⊎ (is_before d q ≡ true))

-- whether the determinants of exactly n entries come before one
abbrev pub has_rank : List (Det × Known) → ℕ → Det → Bool
has_rank entries n det = length (filter (λ e. is_before e.0 det) entries) == n

-- the lesser of two determinants, or the only one if one of them is none
abbrev pub lesser_det : Option Det → Option Det → Option Det
lesser_det None other = other
lesser_det (Some d) None = Some d
lesser_det (Some d) (Some e) = cond (is_before e d) (Some e) (Some d)
