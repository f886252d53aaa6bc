use Rattle.std.proofs.lemmas.Result.{on_ok_weaker}
use Rattle.causal_picture.proofs.Texts.{then}
use Rattle.causal_picture.proofs.titles.push_named.Goals as goal

pub returns : goal.returns
returns c = on_ok_weaker c.push_more.result (λ last. then _ _ _ (then _ _ _ (_, c.in_ok-push_words.ensures) c.in_ok-push_dets.ensures) last) c.push_more.ensures
