-- The processes that the events of each process reach.
use Rattle.std.specs.Prelude.{◌≡◌, ℕ, true, List, length, slice_index_or, slice_set}
use Rattle.std.specs.FinSet.{insert}
use Rattle.causal_audit.specs.Inside.Common.{nat_cmp, FinSet, contains, empty, union, Entry, Send, Reaches}
use Rattle.causal_audit.specs.Inside.Index.Departures.{process_at}

-- the set contains the process of each event that an event of p reaches
abbrev pub HasReached : List Entry → ℕ → FinSet nat_cmp → Type 0
HasReached past p set = (i j : ℕ) → process_at past i ≡ p → Reaches past i j → contains set (process_at past j) ≡ true

-- a process and the members of its set
abbrev pub reachable_from : List (FinSet nat_cmp) → ℕ → FinSet nat_cmp
reachable_from sets p = insert (slice_index_or sets p empty) p

-- there is such a set for each process
pub record AreReached (past : List Entry) (sets : List (FinSet nat_cmp)) : Type 0 where
  pub count : length sets ≡ 256
  pub each : (p : ℕ) → HasReached past p (reachable_from sets p)

-- the sets after the sender of a message also reaches the processes that its receiver reaches
abbrev pub with_reached : List (FinSet nat_cmp) → Entry → List (FinSet nat_cmp)
with_reached sets (Send from to ssn) = slice_set sets from.0 (union (reachable_from sets from.0) (reachable_from sets to.0))
with_reached sets _ = sets
