use Rattle.std.proofs.lemmas.Result.{IfOk-weaker}
use Rattle.causal_workers.proofs.preparation.index_deciding.Goals as goal

pub returns : goal.returns
returns c = IfOk-weaker c.index_again.result _ _ (λ indexed is. (c.in_ok-early.end, c.in_ok-early.ensures.decides, is)) c.index_again.ensures
