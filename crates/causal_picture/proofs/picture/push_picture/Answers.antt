use Rattle.std.proofs.lemmas.Result.{on_ok_weaker}
use Rattle.causal_picture.proofs.Elements.{picture_written}
use Rattle.causal_picture.proofs.picture.push_picture.Goals as goal

pub returns : goal.returns
returns c =
    on_ok_weaker c.push_foot.result (λ last. picture_written _ _ _ _ _ _ _ c.in_ok-push_head.ensures c.in_ok-push_parts.ensures last) c.push_foot.ensures
