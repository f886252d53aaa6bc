use Rattle.causal_audit.proofs.AmongLemmas.{IsLeastBelow}
use Rattle.causal_audit.proofs.clock_audit.earliest_breach_by_clock.Given as goal

-- the earliest breach of the deliveries so far
abbrev pub invariant-loop-i : goal.invariant-loop-i
invariant-loop-i l = IsLeastBelow l.tables l.f l.end l.i l.least
