use Rattle.std.proofs.Common.{refl}
use Rattle.std.proofs.lemmas.Result.{on_ok_weaker}
use Rattle.causal_picture.proofs.glyphs.push_level.Goals as goal

pub returns : goal.returns
returns c = on_ok_weaker c.write.result (λ bytes. (_, (_, refl), bytes)) c.write.ensures.bytes
