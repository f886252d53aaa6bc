-- Writing into a caller's buffer that may be too small.
use Rattle.std.specs.Prelude.{◌≡◌, ℕ, List, ◌++◌, length, take, drop, min}

-- the buffer starts with as many of the bytes, or numbers, as fit, its rest is unchanged, and how many there are is returned
pub record IsCopiedOut (bytes old new : List ℕ) (needed : ℕ) : Type 0 where
  pub front : new ≡ take (min (length old) (length bytes)) bytes ++ drop (min (length old) (length bytes)) old
  pub number : needed ≡ length bytes

-- bytes that satisfy the predicate are copied out
abbrev pub CopiesOut : (List ℕ → Type 0) → List ℕ → List ℕ → ℕ → Type 0
CopiesOut IsMeant old new needed = (bytes : List ℕ) × IsMeant bytes × IsCopiedOut bytes old new needed

-- neither the buffer nor the number is written
abbrev pub IsUntouched : List ℕ → List ℕ → ℕ → ℕ → Type 0
IsUntouched old new number now = (new ≡ old) × (now ≡ number)
