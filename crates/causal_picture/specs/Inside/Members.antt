-- Sets of processes that have the members of a test.
use Rattle.std.specs.Prelude.{◌≡◌, ℕ, Bool, true, Option}
use Rattle.std.specs.Option.{option_map_or}
use Rattle.std.specs.Ordering.{nat_cmp}
use Rattle.std.specs.FinSet.{FinSet, contains}

-- the set contains exactly the numbers that pass
abbrev pub HasMembersOf : FinSet nat_cmp → (ℕ → Bool) → Type 0
HasMembersOf s test = (p : ℕ) → contains s p ≡ test p

-- whether a number is in a set; without a set, true
abbrev pub is_among : Option (FinSet nat_cmp) → ℕ → Bool
is_among members p = option_map_or (λ s. contains s p) members true
