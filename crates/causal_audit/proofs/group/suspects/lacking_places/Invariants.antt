use Rattle.causal_audit.proofs.Common.{ℕ, ◌≡◌, true, contains}
use Rattle.causal_audit.specs.Inside.Group.Walk.{IsLacked}
use Rattle.causal_audit.proofs.group.suspects.lacking_places.Given as goal

-- the places of the processes so far
abbrev pub invariant-loop-p : goal.invariant-loop-p
invariant-loop-p l = (j : ℕ) → IsLacked l.present l.held l.p j → contains l.lacked j ≡ true
