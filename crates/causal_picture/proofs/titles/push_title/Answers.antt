use Rattle.std.proofs.lemmas.Result.{on_ok_weaker}
use Rattle.causal_picture.proofs.Texts.{then}
use Rattle.causal_picture.proofs.titles.push_title.Goals as goal

pub returns : goal.returns
returns c = on_ok_weaker c.push_words-2.result (λ last. then _ _ _ (then _ _ _ (then _ _ _ (_, c.in_ok-push_words.ensures) c.in_ok-push_event.ensures) c.in_ok-push_list.ensures) (_, last)) c.push_words-2.ensures
