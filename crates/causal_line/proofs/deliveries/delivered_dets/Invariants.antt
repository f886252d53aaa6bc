use Rattle.causal_line.proofs.EntryCounts.{HasFirst}
use Rattle.causal_line.proofs.deliveries.delivered_dets.Given as goal

abbrev pub invariant-loop-k : goal.invariant-loop-k
invariant-loop-k l = HasFirst l.trace.recording.past l.k l.delivered
