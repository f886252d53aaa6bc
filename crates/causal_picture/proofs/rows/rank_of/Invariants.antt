use Rattle.std.proofs.Common.{◌≡◌}
use Rattle.causal_picture.specs.Rows.{rank_of}
use Rattle.causal_picture.proofs.rows.rank_of.Given as goal

-- the number of members below the next number
abbrev pub invariant-loop-number : goal.invariant-loop-number
invariant-loop-number l = l.rank ≡ rank_of l.fn.shown l.number
