use Rattle.std.proofs.lemmas.Result.{on_ok_weaker}
use Rattle.causal_answers.proofs.Joining.{joined}
use Rattle.causal_answers.proofs.answer.push_reason_array.Goals as goal

pub returns : goal.returns
returns c =
    on_ok_weaker c.push_text-2.result (λ last. joined _ _ _ _ _ _ _ c.in_ok-push_text.ensures c.in_ok-push_objects.ensures last) c.push_text-2.ensures
