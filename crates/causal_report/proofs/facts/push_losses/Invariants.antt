use Rattle.std.proofs.Common.{◌≡◌, ◌++◌, drop, map}
use Rattle.causal_facts.specs.declared.fact.Fact.TheVariants.{Loss}
use Rattle.causal_report.proofs.facts.push_losses.Given as goal

abbrev pub invariant-loop-loss : goal.invariant-loop-loss
invariant-loop-loss l = l.found.items ++ map Loss (drop l.loss-index l.losses) ≡ l.fn.found.items ++ map Loss l.losses
