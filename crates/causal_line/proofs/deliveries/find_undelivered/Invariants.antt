use Rattle.causal_line.proofs.deliveries.find_undelivered.Given as goal

abbrev pub invariant-loop-det : goal.invariant-loop-det
invariant-loop-det l = Unit {0}
