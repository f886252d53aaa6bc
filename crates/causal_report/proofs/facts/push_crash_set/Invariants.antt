use Rattle.std.proofs.Common.{◌≡◌, ◌++◌, map}
use Rattle.causal_holders.specs.Members.{ascending}
use Rattle.causal_facts.specs.declared.fact.Fact.TheVariants.{Crash}
use Rattle.causal_report.proofs.facts.push_crash_set.Given as goal

abbrev pub invariant-loop-process : goal.invariant-loop-process
invariant-loop-process l = l.found.items ++ map Crash (ascending l.process-iterator) ≡ l.fn.found.items ++ map Crash (ascending l.fn.crash)
