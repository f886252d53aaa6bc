use Rattle.std.specs.Prelude.{◌+◌}
use Rattle.std.specs.FinSet.{len}
use Rattle.causal_audit.specs.Inside.Group.Walk.{AreStillOpen}
use Rattle.causal_audit.proofs.group.GroupWalk.{HaveJudged}
use Rattle.causal_audit.proofs.group.orphan_check.check_step.Given as goal

-- all places except the remaining ones are checked, and those removed from the open set are closed
abbrev pub invariant-loop-least : goal.invariant-loop-least
invariant-loop-least l = record {
  judged : HaveJudged l.trace.recording l.f l.candidates l.step.t l.initial.rest l.rest l.least;
  unresolved : AreStillOpen l.candidates (l.step.t + 1) l.unresolved;
}

abbrev pub decreases-loop-least : goal.decreases-loop-least
decreases-loop-least l = len l.rest
