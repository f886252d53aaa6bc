use Rattle.std.proofs.lemmas.Result.{on_ok_weaker}
use Rattle.causal_picture.proofs.Texts.{then}
use Rattle.causal_picture.proofs.frame.push_up_line.Goals as goal

pub returns : goal.returns
returns c = on_ok_weaker c.push_up.result (λ last. then _ _ _ (_, c.in_ok-push_words.ensures) last) c.push_up.ensures
