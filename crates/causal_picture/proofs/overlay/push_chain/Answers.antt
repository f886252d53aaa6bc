use Rattle.std.proofs.lemmas.Result.{on_ok_weaker}
use Rattle.causal_picture.proofs.Texts.{then}
use Rattle.causal_picture.proofs.overlay.push_chain.Goals as goal

pub returns : goal.returns
returns c = on_ok_weaker c.push_rings.result (λ last. then _ _ _ (then _ _ _ (then _ _ _ (_, c.in_ok-push_words.ensures) c.in_ok-push_corners.ensures) (_, c.in_ok-push_words-2.ensures)) last) c.push_rings.ensures
