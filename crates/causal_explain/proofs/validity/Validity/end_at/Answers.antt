use Rattle.std.proofs.Common.{sym, ◌∙◌}
use Rattle.std.specs.Prelude.{not}
use Rattle.std.proofs.lemmas.Bool.{not-true}
use Rattle.causal_explain.specs.declared.validity.Validity.TheVariants.{Ended}
use Rattle.causal_explain.proofs.StandingLemmas.{holds_now, still_stands}
use Rattle.causal_explain.proofs.validity.Validity.end_at.Goals as goal

pub returns-in-Ended : goal.returns-in-Ended
returns-in-Ended c test e past is fails h =
    let over = rw c.in-Ended.is at h in
    still_stands e past test (Ended c.in-Ended.span) (fails ∙ sym (not-true _ (holds_now past (λ state. not (test state)) c.in-Ended.span.to over.0.0))) over
