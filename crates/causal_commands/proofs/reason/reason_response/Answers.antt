use Rattle.std.proofs.Common.{refl}
use Rattle.causal_answers.specs.declared.finding.Finding.TheVariants as finding
use Rattle.causal_answers.specs.declared.answer.Answer.TheVariants.{Found}
use Rattle.causal_outcomes.specs.declared.ended.Ended.{Ended}
use Rattle.causal_commands.specs.Answers.{IsReasonAnswer}
use Rattle.causal_commands.proofs.VerdictEndings.{by_verdict}
use Rattle.causal_commands.proofs.reason.reason_response.Goals as goal

pub returns-clause-answer : goal.returns-clause-answer
returns-clause-answer c = λ most text spells.
    let known = c.in_ok-known.known in
    let is = c.in_ok-known.ensures most text spells in
    by_verdict (λ (e : Ended). IsReasonAnswer most text c.args.f e (Found (finding.Verdict c.args.f known.judged) known.facts)) known.judged.verdict c.ended_of.result c.ended_of.ensures.accepted c.ended_of.ensures.breached
    (λ accept. (known.judged, (known.facts.items, is, (refl, refl)), accept)) (λ breach. (known.judged, (known.facts.items, is, (refl, refl)), breach))
