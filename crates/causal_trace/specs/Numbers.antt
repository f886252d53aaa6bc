-- The numbers of deliveries, counted from 0 in the order of the run, by determinant.
use Rattle.std.specs.Prelude.{ℕ, nat_lt, ◌&&◌, if◌then◌else◌, List, [], ◌∷◌, length, Option, Some, None}
use Rattle.std.specs.Option.{option_map_or}
use Rattle.causal_name.specs.Names.{same_det}
use Rattle.causal_name.specs.declared.Det.{Det}
use Rattle.causal_trace.specs.declared.entry.Entry.{Entry}
use Rattle.causal_trace.specs.Past.{det_of}

-- the determinants of the deliveries, newest first
abbrev pub delivered_dets : List Entry → List Det
delivered_dets [] = []
delivered_dets (e ∷ past) = option_map_or (λ d. d ∷ delivered_dets past) (det_of past e) (delivered_dets past)

-- the number of the newest delivery with this determinant among the first m, by the list of determinants, newest
-- first
abbrev pub number_of : ℕ → List Det → Det → Option ℕ
number_of m [] d = None
number_of m (det ∷ older) d = if nat_lt (length older) m && same_det det d then Some (length older) else number_of m older d
