use Rattle.std.proofs.Common.{◌≡◌, ◌++◌, drop, map}
use Rattle.causal_facts.specs.declared.fact.Fact.TheVariants.{Down}
use Rattle.causal_report.proofs.facts.push_down.Given as goal

abbrev pub invariant-loop-process : goal.invariant-loop-process
invariant-loop-process l = l.found.items ++ map Down (drop l.process-index l.down) ≡ l.fn.found.items ++ map Down l.down
