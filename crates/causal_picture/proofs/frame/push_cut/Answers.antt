use Rattle.std.proofs.lemmas.Result.{on_ok_weaker}
use Rattle.causal_picture.proofs.Texts.{then}
use Rattle.causal_picture.proofs.frame.push_cut.Goals as goal

pub returns : goal.returns
returns c = on_ok_weaker c.write-2.result (λ last. then _ _ _ (then _ _ _ (_, c.in_ok-write.ensures.bytes) c.in_ok-push_upright.ensures) (_, last)) c.write-2.ensures.bytes
