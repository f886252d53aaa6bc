use Rattle.std.proofs.Common.{ℕ, ◌-◌, List, length}
use Rattle.causal_audit.specs.Inside.PositionLists.{IsCursor}
use Rattle.causal_audit.proofs.index.cursor.Cursor.next.Given as goal

-- the numbers passed are below `from`
abbrev pub invariant-loop-position : goal.invariant-loop-position
invariant-loop-position l = (list : List ℕ) → IsCursor list l.from l.fn.self → IsCursor list l.from l.self

abbrev pub decreases-loop-position : goal.decreases-loop-position
decreases-loop-position l = length l.self.list.now - l.self.passed
