use Rattle.std.proofs.lemmas.Result.{on_ok_weaker}
use Rattle.causal_picture.proofs.Elements.{head_written}
use Rattle.causal_picture.proofs.frame.push_head.Goals as goal

pub returns : goal.returns
returns c = on_ok_weaker c.push_start.result (λ last. head_written _ _ _ _ c.in_ok-push_words.ensures last) c.push_start.ensures
