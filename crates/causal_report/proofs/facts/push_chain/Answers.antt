use Rattle.std.proofs.Common.{append-nil}
use Rattle.std.proofs.lemmas.List.{drop_all}
use Rattle.causal_report.specs.Facts.{chain_fact}
use Rattle.causal_report.proofs.FactLists.{next_fact}
use Rattle.causal_report.proofs.facts.push_chain.Goals as goal

pub loop-position-preserved : goal.loop-position-preserved
loop-position-preserved c = next_fact (chain_fact c.args.trace.now.recording) c.args.chain.now c.loop-position.position-index _ _ _ _ c.loop-position-test.true c.loop-position.invariant (rw c.chain_fact.ensures at c.in_ok-push.ensures.items)

pub returns : goal.returns
returns c = rw (drop_all c.loop-position.position-index c.args.chain.now c.loop-position-test.false, append-nil) at c.loop-position.invariant
