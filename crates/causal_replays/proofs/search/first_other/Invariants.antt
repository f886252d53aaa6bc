use Rattle.causal_replays.specs.Inside.Rivals.{AreAllOf}
use Rattle.causal_replays.proofs.search.first_other.Given as goal

-- no other one so far
abbrev pub invariant-loop-k : goal.invariant-loop-k
invariant-loop-k l = AreAllOf l.trace.recording.past l.copies l.slot l.k l.known
