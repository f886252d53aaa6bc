use Rattle.std.proofs.Common.{◌≡◌, ◌++◌, drop, map}
use Rattle.causal_facts.specs.declared.fact.Fact.TheVariants.{Holder}
use Rattle.causal_report.proofs.facts.push_each_holder.Given as goal

abbrev pub invariant-loop-holding : goal.invariant-loop-holding
invariant-loop-holding l = l.found.items ++ map Holder (drop l.holding-index l.holders) ≡ l.fn.found.items ++ map Holder l.holders
