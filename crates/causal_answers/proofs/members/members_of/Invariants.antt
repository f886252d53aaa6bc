use Rattle.std.proofs.Common.{◌≡◌, ◌++◌}
use Rattle.causal_holders.specs.Members.{ascending}
use Rattle.causal_answers.proofs.members.members_of.Given as goal

abbrev pub invariant-loop-process : goal.invariant-loop-process
invariant-loop-process l = l.members.items ++ ascending l.process-iterator ≡ ascending l.fn.processes
