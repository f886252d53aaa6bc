-- A cursor over an ascending list.
use Rattle.causal_audit.proofs.Common.{ℕ, ◌≡◌, ◌<◌, ◌≤◌, true, false, List, get_or, arith, IsPartitionPoint, ltb-true, ltb-false}
use Rattle.std.proofs.Math.Dec.{ltb}
use Rattle.causal_audit.specs.Inside.PositionLists.{IsCursor}

-- the partition point that a search by the test finds
pub split_below : (list : List ℕ) (from i : ℕ) → IsPartitionPoint (λ y. ltb y from ≡ true) (λ y. ltb y from ≡ false) list i → IsPartitionPoint (λ v. v < from) (λ v. from ≤ v) list i
split_below list from i point = (λ j v low high. ltb-true (get_or list j v) from (point.0 j v low high), λ j v low high. ltb-false (get_or list j v) from (point.1 j v low high))

-- numbers passed below one bound are below a higher bound
pub cursor_later : (list : List ℕ) (from to : ℕ) (cursor : _) → from ≤ to → IsCursor list from cursor → IsCursor list to cursor
cursor_later list from to cursor up is = grind arith
