-- Sets of processes, as lists with a byte for each process.
use Rattle.std.specs.Prelude.{ℕ, List, map, if◌then◌else◌}
use Rattle.std.specs.List.{range_with_len}
use Rattle.std.specs.FinSet.{FinSet, contains}
use Rattle.std.specs.Ordering.{nat_cmp}

-- 1 for each process below 256 that is in the set, 0 for each other
unfoldable pub flags : FinSet nat_cmp → List ℕ
flags set = map (λ p. if contains set p then 1 else 0) (range_with_len 0 256)
