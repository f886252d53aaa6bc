use Rattle.causal_audit.proofs.Common.{ℕ, ◌≡◌, ◌<◌, ◌≤◌, false, contains}
use Rattle.causal_audit.specs.Inside.Group.Walk.{row}
use Rattle.causal_audit.proofs.group.orphan_check.dependents_of.Given as goal

-- the dependents among the processes so far
abbrev pub invariant-loop-p : goal.invariant-loop-p
invariant-loop-p l = record {
  behind : (p : ℕ) → p < l.p → contains l.dependents p ≡ contains (row l.present p) l.place;
  ahead : (p : ℕ) → l.p ≤ p → contains l.dependents p ≡ false;
}
