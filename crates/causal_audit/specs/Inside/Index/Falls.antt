-- The restarts by the number of processes that are down after them.
use Rattle.std.specs.Prelude.{◌≡◌, ℕ, ◌+◌, List, length, Some, Contains}
use Rattle.causal_audit.specs.Inside.Common.{All, Pid, Det, Entry, Restart, instant, entry_at, is_down, AreLegalEntries}
use Rattle.causal_name.specs.Sets.{count_below}
use Rattle.causal_audit.specs.Inside.Index.Lists.{Ascends, list_at}

-- for each number of processes the list contains the positions of the restarts after which so many are down
pub record AreFalls (past : List Entry) (lists : List (List ℕ)) : Type 0 where
  pub ascend : All (Ascends (length past)) lists
  pub all : (n v : ℕ) (who : Pid) (listed : List Det) → AreLegalEntries n past → entry_at past v ≡ Some (Restart who listed)
      → (Contains (list_at lists (count_below n (is_down (instant past (v + 1))))) v → ⊥) → ⊥
