use Rattle.std.proofs.Common.{append-nil}
use Rattle.std.proofs.lemmas.List.{drop_all}
use Rattle.causal_facts.specs.declared.fact.Fact.TheVariants.{Down}
use Rattle.causal_report.proofs.FactLists.{next_fact}
use Rattle.causal_report.proofs.facts.push_down.Goals as goal

pub loop-process-preserved : goal.loop-process-preserved
loop-process-preserved c = next_fact Down c.args.down.now c.loop-process.process-index _ _ _ _ c.loop-process-test.true c.loop-process.invariant c.in_ok-push.ensures.items

pub returns : goal.returns
returns c = rw (drop_all c.loop-process.process-index c.args.down.now c.loop-process-test.false, append-nil) at c.loop-process.invariant
