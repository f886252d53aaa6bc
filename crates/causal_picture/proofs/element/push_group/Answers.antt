use Rattle.std.proofs.lemmas.Result.{on_ok_weaker}
use Rattle.causal_picture.proofs.Elements.{group_written}
use Rattle.causal_picture.proofs.element.push_group.Goals as goal

pub returns : goal.returns
returns c =
    on_ok_weaker c.push_words.result
    (λ last. group_written _ _ _ _ _ c.in_ok-push_opening.ensures c.in_ok-push_inside.ensures last) c.push_words.ensures
