use Rattle.std.proofs.Common.{arith}
use Rattle.causal_audit.proofs.index.DownAfterTurns.{none_restarts}
use Rattle.causal_audit.proofs.index.transitions.Transitions.next_restart.Goals as goal

pub returns-then-are_ahead-clause-none : goal.returns-then-are_ahead-clause-none
returns-then-are_ahead-clause-none c =
    none_restarts _ _ _ c.requires.transitions.turned c.args.members c.args.from c.args.passed
    (λ i e low late at. absurd (omega (arith, c.requires.place.point.0 i 0 (omega arith) low, late))) c.args.end c.if-are_ahead.ensures
