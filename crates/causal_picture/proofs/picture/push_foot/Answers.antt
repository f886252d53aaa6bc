use Rattle.std.proofs.lemmas.Result.{on_ok_weaker}
use Rattle.causal_picture.proofs.Elements.{foot_written}
use Rattle.causal_picture.proofs.picture.push_foot.Goals as goal

pub returns : goal.returns
returns c =
    on_ok_weaker c.push_words-2.result (λ last. foot_written _ _ _ _ _ _ _ _ c.in_ok-push_words.ensures c.in_ok-push_verdict.ensures c.in_ok-push_legends.ensures last) c.push_words-2.ensures
