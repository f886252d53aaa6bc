use Rattle.std.proofs.lemmas.Result.{on_ok_weaker}
use Rattle.causal_picture.proofs.Texts.{then}
use Rattle.causal_picture.proofs.frame.push_row.Goals as goal

pub returns : goal.returns
returns c = on_ok_weaker c.push_names.result (λ last. then _ _ _ (then _ _ _ (then _ _ _ (_, c.in_ok-push_words.ensures) c.in_ok-push_shade.ensures) (c.in_ok-push_level.ensures.0, c.in_ok-push_level.ensures.2)) last) c.push_names.ensures
