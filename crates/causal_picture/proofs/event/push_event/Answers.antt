use Rattle.std.proofs.lemmas.Result.{on_ok_weaker}
use Rattle.causal_picture.proofs.Texts.{then}
use Rattle.causal_picture.proofs.event.push_event.Goals as goal

pub returns : goal.returns
returns c = on_ok_weaker c.push_glyph.result (λ last. then _ _ _ (then _ _ _ (then _ _ _ c.in_ok-push_title.ensures c.in_ok-push_number.ensures) c.in_ok-push_link.ensures) last) c.push_glyph.ensures
