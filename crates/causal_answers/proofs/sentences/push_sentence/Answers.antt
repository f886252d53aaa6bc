use Rattle.std.proofs.lemmas.Result.{on_ok_weaker}
use Rattle.causal_answers.proofs.FactLines.{sentence_written}
use Rattle.causal_answers.proofs.sentences.push_sentence.Goals as goal

pub returns : goal.returns
returns c =
    on_ok_weaker c.push_text-2.result (λ last. sentence_written _ _ _ _ c.in_ok-push_text.ensures c.in_ok-push_words.ensures last) c.push_text-2.ensures
