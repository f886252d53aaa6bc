-- Shares of the followed deliveries, such that the walks of each cover a fair part of the entries that are left.
use Rattle.std.specs.Prelude.{◌≡◌, ℕ, ◌+◌, ◌-◌, ◌*◌, ◌/◌, ◌<◌, ◌≤◌, List, length, map, min, sum, slice_index_or}
use Rattle.std.specs.List.{range_with_len}
use Rattle.causal_audit.specs.declared.group.walk.TheConstants.{GROUP}

-- the number of walks that follow this many deliveries
abbrev pub walk_count : ℕ → ℕ
walk_count deliveries = (deliveries + (GROUP - 1)) / GROUP

-- about how many entries a walk covers: as many as its first delivery is open for
abbrev pub walk_length : List ℕ → ℕ → ℕ
walk_length open_lengths walk = slice_index_or open_lengths (walk * GROUP) 0

-- about how many entries the first `walks` walks cover
abbrev pub walked : List ℕ → ℕ → ℕ
walked open_lengths walks = sum (map (walk_length open_lengths) (range_with_len 0 walks))

-- the first `count` deliveries are those of the least number of walks that cover at least `fair` entries
pub record IsShareOf (open_lengths : List ℕ) (fair count : ℕ) : Type 0 where
  pub walks : ℕ
  pub grouped : count ≡ min (walks * GROUP) (length open_lengths)
  pub enough : fair ≤ walked open_lengths walks
  pub least : 1 < walks → walked open_lengths (walks - 1) < fair

-- the first `count` deliveries are a share for one of `workers` workers: at least a fair part, and at most one walk more
abbrev pub IsFairShare : ℕ → List ℕ → ℕ → Type 0
IsFairShare workers open_lengths count = IsShareOf open_lengths (walked open_lengths (walk_count (length open_lengths)) / workers) count
