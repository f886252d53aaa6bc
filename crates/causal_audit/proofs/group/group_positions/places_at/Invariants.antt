use Rattle.causal_audit.proofs.Common.{◌-◌, length}
use Rattle.causal_audit.proofs.group.GroupWalk.{HavePassed}
use Rattle.causal_audit.proofs.group.group_positions.places_at.Given as goal

-- the deliveries that this call passed are at position t
abbrev pub invariant-loop-delivery : goal.invariant-loop-delivery
invariant-loop-delivery l = HavePassed l.candidates l.t l.initial.passed l.passed l.own

abbrev pub decreases-loop-delivery : goal.decreases-loop-delivery
decreases-loop-delivery l = length l.candidates - l.passed
