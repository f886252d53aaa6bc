use Rattle.std.proofs.Common.{◌≡◌}
use Rattle.causal_holders.specs.Members.{numbers_below}
use Rattle.causal_picture.specs.Inside.Members.{is_among}
use Rattle.causal_picture.proofs.rows.processes_among.Given as goal

-- the members below the next process
abbrev pub invariant-loop-process : goal.invariant-loop-process
invariant-loop-process l = l.shown ≡ numbers_below l.process (is_among l.members)
