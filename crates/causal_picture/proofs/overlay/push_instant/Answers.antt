use Rattle.std.proofs.lemmas.Result.{on_ok_weaker}
use Rattle.causal_picture.proofs.Texts.{then}
use Rattle.causal_picture.proofs.overlay.push_instant.Goals as goal

pub returns : goal.returns
returns c = on_ok_weaker c.push_processes.result (λ last. then _ _ _ (then _ _ _ (then _ _ _ (_, c.in_ok-push_words.ensures) c.in_ok-push_upright.ensures) c.in_ok-push_label.ensures) last) c.push_processes.ensures
