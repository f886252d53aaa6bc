use Rattle.std.proofs.lemmas.Result.{on_ok_weaker}
use Rattle.causal_picture.proofs.Texts.{then}
use Rattle.causal_picture.proofs.picture.push_legends.Goals as goal

pub returns : goal.returns
returns c = on_ok_weaker c.push_legend.result (λ last. then _ _ _ c.in_ok-push_reason.ensures last) c.push_legend.ensures
