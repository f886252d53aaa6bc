use Rattle.std.proofs.lemmas.Result.{on_ok_weaker}
use Rattle.causal_answers.proofs.FactLines.{line_written}
use Rattle.causal_answers.proofs.lines.push_fact.Goals as goal

pub returns : goal.returns
returns c = on_ok_weaker c.push_sentence.result (λ last. line_written _ _ _ _ c.in_ok-push_head.ensures last) c.push_sentence.ensures
