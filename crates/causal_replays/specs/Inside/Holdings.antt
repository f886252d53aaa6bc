-- The holders of each determinant by number, and the numbers that each process has logged.
use Rattle.std.specs.Prelude.{◌≡◌, ℕ, ◌<◌, Bool, true, List, [], length, map, slice_index_or, slice_index}
use Rattle.std.specs.Ordering.{nat_cmp}
use Rattle.std.specs.FinSet.{FinSet, contains, empty}
use Rattle.std.specs.Global.{Vec}

-- whether process p holds the determinant with number i
abbrev pub holds : List (FinSet nat_cmp) → ℕ → ℕ → Bool
holds holders i p = contains (slice_index_or holders i empty) p

-- the lists in a vector of vectors
abbrev pub lists_in : {A : Type 0} → List (Vec A) → List (List A)
lists_in lists = map (λ list. list.items) lists

-- the numbers that a process has logged
abbrev pub logged_numbers : List (Vec ℕ) → ℕ → List ℕ
logged_numbers logs p = slice_index_or (lists_in logs) p []

-- the list contains number i
abbrev pub IsIn : List ℕ → ℕ → Type 0
IsIn list i = (k : ℕ) × (k < length list) × (slice_index list k ≡ i)

-- the list of each process contains each number that the process holds, and no number without holders' place
pub record AreLogged (holders : List (FinSet nat_cmp)) (logs : List (Vec ℕ)) : Type 0 where
  pub logged : (i p : ℕ) → holds holders i p ≡ true → IsIn (logged_numbers logs p) i
  pub below : (p k : ℕ) → k < length (logged_numbers logs p) → slice_index (logged_numbers logs p) k < length holders
