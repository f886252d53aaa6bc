use Rattle.causal_audit.proofs.Common.{arith}
use Rattle.causal_audit.proofs.index.transitions.TransitionCursor.next_fall.Goals as goal

pub returns-clause-none : goal.returns-clause-none
returns-clause-none c past are = (
  c.next_among-position.ensures.crashed past are.crashed,
  λ v late early. c.next_to-fall.ensures.none v late (omega (arith, early, c.next_among-position.ensures.bounds.1)),
)
