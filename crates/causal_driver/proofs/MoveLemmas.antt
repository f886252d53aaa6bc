-- The moves at one process after the other.
use Rattle.std.proofs.Common.{◌≡◌, ℕ, ◌+◌, ◌-◌, ◌<◌, List, ◌∷◌, ◌++◌, suc, refl, append_assoc, arith, flat_map}
use Rattle.std.specs.List.{range_with_len}
use Rattle.causal_protocol.specs.declared.request.Request.{Request}

-- the numbers from k up to an end begin with k
range_first : (k end : ℕ) → k < end → range_with_len k (end - k) ≡ k ∷ range_with_len (k + 1) (end - (k + 1))
range_first k end h = let e : end - k ≡ suc (end - (k + 1)) = omega arith in rw e refl

-- the moves at the next process are appended
pub moves_at_next : (f : ℕ → List Request) (whole before after : List Request) (k end : ℕ) → k < end → after ≡ before ++ f k
    → whole ≡ before ++ flat_map f (range_with_len k (end - k)) → whole ≡ after ++ flat_map f (range_with_len (k + 1) (end - (k + 1)))
moves_at_next f whole before after k end less more is = grind (arith, range_first k end less, append_assoc)
