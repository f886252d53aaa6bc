use Rattle.std.proofs.lemmas.Result.{on_ok_weaker}
use Rattle.causal_picture.proofs.Texts.{then}
use Rattle.causal_picture.proofs.legend.push_key.Goals as goal

pub returns : goal.returns
returns c = on_ok_weaker c.write.result (λ last. then _ _ _ c.in_ok-push_glyph.ensures (_, last)) c.write.ensures.bytes
