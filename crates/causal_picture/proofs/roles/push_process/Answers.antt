use Rattle.std.proofs.lemmas.Result.{on_ok_weaker}
use Rattle.causal_picture.proofs.Texts.{then}
use Rattle.causal_picture.proofs.roles.push_process.Goals as goal

pub returns : goal.returns
returns c = on_ok_weaker c.write.result (λ last. then _ _ _ c.in_ok-push_sign.ensures (_, last)) c.write.ensures.bytes
