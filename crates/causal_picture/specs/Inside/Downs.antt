-- The down processes as a set.
use Rattle.std.specs.Prelude.{◌≡◌, ℕ, List}
use Rattle.std.specs.Ordering.{nat_cmp}
use Rattle.std.specs.FinSet.{FinSet, contains}
use Rattle.causal_trace.specs.declared.entry.Entry.{Entry}
use Rattle.causal_trace.specs.Past.{is_down}

-- the set contains exactly the down processes
abbrev pub ShowsDown : List Entry → FinSet nat_cmp → Type 0
ShowsDown past down = (p : ℕ) → contains down p ≡ is_down past p
