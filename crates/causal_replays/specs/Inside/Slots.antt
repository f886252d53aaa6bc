-- A table of one number for each slot.
use Rattle.std.specs.Prelude.{ℕ, List, [], Option, None, slice_index_or}
use Rattle.std.specs.Global.{Vec}
use Rattle.causal_replays.specs.Inside.Holdings.{lists_in}

-- the number of the slot with this receiver and receive sequence number
abbrev pub slot_number : List (Vec (Option ℕ)) → ℕ → ℕ → Option ℕ
slot_number lists p r = slice_index_or (slice_index_or (lists_in lists) p []) r None
