use Rattle.std.proofs.Common.{◌≡◌, ◌++◌, drop, map}
use Rattle.causal_facts.specs.declared.fact.Fact.TheVariants.{Logged}
use Rattle.causal_report.proofs.strays.logged_facts.Given as goal

abbrev pub invariant-loop-holding : goal.invariant-loop-holding
invariant-loop-holding l = l.found.items ++ map (Logged l.delivery) (drop l.holding-index l.holders) ≡ map (Logged l.delivery) l.holders
