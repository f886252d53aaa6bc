use Rattle.causal_audit.proofs.Common.{◌≡◌, deliveries_in, past_at}
use Rattle.causal_audit.proofs.index.mentions.deliveries_in.Given as goal

-- the deliveries so far are counted
abbrev pub invariant-loop-entry : goal.invariant-loop-entry
invariant-loop-entry l = l.count ≡ deliveries_in (past_at l.entries l.entry-index)
