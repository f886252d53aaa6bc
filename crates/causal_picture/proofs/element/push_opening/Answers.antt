use Rattle.std.proofs.lemmas.Result.{on_ok_weaker}
use Rattle.causal_picture.proofs.Elements.{opening_written}
use Rattle.causal_picture.proofs.element.push_opening.Goals as goal

pub returns : goal.returns
returns c =
    on_ok_weaker c.push_title_start.result
    (λ last. opening_written _ _ _ c.attributes_of.result.now _ c.attributes_of.ensures c.in_ok-push_start.ensures last) c.push_title_start.ensures
