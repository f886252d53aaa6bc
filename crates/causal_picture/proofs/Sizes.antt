-- Bounds on the size of a picture.
use Rattle.std.proofs.Common.{ℕ, ◌+◌, ◌*◌, ◌/◌, ◌<◌, ◌≤◌, ◌^◌, arith}
use Rattle.std.specs.Prelude.{min, max}
use Rattle.std.proofs.lemmas.Bool.Decides.{leb_tells}
use Rattle.std.proofs.Math.Nat.{div-mul-le_self, mul-le-mul_right}
use Rattle.std.proofs.lemmas.Nat.{mul-le}

-- the width of these columns fits into a u64
pub columns_small : (a b : ℕ) → a ≤ 30 → b ≤ 2 ^ 33 → a * b ≤ 30 * 2 ^ 33
columns_small a b narrow few = mul-le a b 30 (2 ^ 33) narrow few

-- all columns together are at most 2,200 wide
pub columns_fit : (c : ℕ) → min 30 (2200 / (c + 1)) * (c + 1) ≤ 2200
columns_fit c = grind (arith, div-mul-le_self 2200 (c + 1), mul-le-mul_right)

-- the height of these rows fits into a u32
pub rows_small : (a p : ℕ) → a ≤ 40 → p < 2 ^ 16 → a * p ≤ 40 * 2 ^ 16
rows_small a p low few = mul-le a p 40 (2 ^ 16) low (omega (arith, few))

-- at most 20 rows are at most 560 high
pub rows_fit : (p : ℕ) → p ≤ 20 → max 16 (min 40 (560 / (p + 1))) * p ≤ 560
rows_fit p few = grind (arith, div-mul-le_self 560 (p + 1), leb_tells (560 / (p + 1)) 16, mul-le)
