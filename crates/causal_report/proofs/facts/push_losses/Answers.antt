use Rattle.std.proofs.Common.{append-nil}
use Rattle.std.proofs.lemmas.List.{drop_all}
use Rattle.causal_facts.specs.declared.fact.Fact.TheVariants.{Loss}
use Rattle.causal_report.proofs.FactLists.{next_fact}
use Rattle.causal_report.proofs.facts.push_losses.Goals as goal

pub loop-loss-preserved : goal.loop-loss-preserved
loop-loss-preserved c = next_fact Loss c.args.losses.now c.loop-loss.loss-index _ _ _ _ c.loop-loss-test.true c.loop-loss.invariant c.in_ok-push.ensures.items

pub returns : goal.returns
returns c = rw (drop_all c.loop-loss.loss-index c.args.losses.now c.loop-loss-test.false, append-nil) at c.loop-loss.invariant
