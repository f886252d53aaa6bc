use Rattle.causal_answers.proofs.Lemmas.LineLists.{line_added}
use Rattle.causal_answers.specs.Lines.{IsFactLine}
use Rattle.causal_answers.proofs.lines.push_facts.Goals as goal

pub loop-fact-preserved : goal.loop-fact-preserved
loop-fact-preserved c = line_added IsFactLine _ _ _ _ _ _ c.loop-fact-test.true c.loop-fact.invariant c.in_ok-push_fact.ensures
