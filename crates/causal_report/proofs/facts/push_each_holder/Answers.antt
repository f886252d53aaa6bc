use Rattle.std.proofs.Common.{append-nil}
use Rattle.std.proofs.lemmas.List.{drop_all}
use Rattle.causal_facts.specs.declared.fact.Fact.TheVariants.{Holder}
use Rattle.causal_report.proofs.FactLists.{next_fact}
use Rattle.causal_report.proofs.facts.push_each_holder.Goals as goal

pub loop-holding-preserved : goal.loop-holding-preserved
loop-holding-preserved c = next_fact Holder c.args.holders.now c.loop-holding.holding-index _ _ _ _ c.loop-holding-test.true c.loop-holding.invariant c.in_ok-push.ensures.items

pub returns : goal.returns
returns c = rw (drop_all c.loop-holding.holding-index c.args.holders.now c.loop-holding-test.false, append-nil) at c.loop-holding.invariant
