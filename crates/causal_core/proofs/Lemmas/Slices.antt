-- The elements of a list after a write.
use Rattle.std.proofs.Common.{◌≡◌, ◌≢◌, ℕ, ◌<◌, List, [], ◌∷◌, Some, length, slice_get, slice_set, arith}

-- the element at the written index is the written one
pub slice_get-set_same : {X : Type 0} (xs : List X) (i : ℕ) (x : X) → i < length xs → slice_get (slice_set xs i x) i ≡ Some x
slice_get-set_same [] i x h = grind arith
slice_get-set_same (each ∷ others) i x h = grind (arith, slice_get-set_same others)

-- the elements at the other indices are unchanged
pub slice_get-set_other : {X : Type 0} (xs : List X) (i j : ℕ) (x : X) → j ≢ i → slice_get (slice_set xs i x) j ≡ slice_get xs j
slice_get-set_other [] i j x h = grind arith
slice_get-set_other (each ∷ others) i j x h = grind (arith, slice_get-set_other others)
