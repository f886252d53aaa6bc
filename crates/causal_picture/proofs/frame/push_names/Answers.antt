use Rattle.std.proofs.lemmas.Result.{on_ok_weaker}
use Rattle.causal_picture.proofs.Texts.{then}
use Rattle.causal_picture.proofs.frame.push_names.Goals as goal

pub returns : goal.returns
returns c = on_ok_weaker c.push_repeated_name-3.result (λ last. then _ _ _ (then _ _ _ (then _ _ _ c.in_ok-push_label.ensures c.in_ok-push_repeated_name.ensures) c.in_ok-push_repeated_name-2.ensures) last) c.push_repeated_name-3.ensures
