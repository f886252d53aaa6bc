use Rattle.std.proofs.Common.{Some, subst}
use Rattle.std.proofs.lemmas.Result.{IfOk-weaker}
use Rattle.causal_audit.specs.declared.verdict.Verdict.TheVariants.{Orphan}
use Rattle.causal_explain.specs.Causes.{IsCauseOf}
use Rattle.causal_report.proofs.facts.verdict_facts.Goals as goal

pub unreachable-requires : goal.unreachable-requires
unreachable-requires c = rw (c.in-Exceeded.is, c.in_default-cause.is) at (c.cause_of-cause.ensures c.args.f c.requires)

pub unreachable-requires-in_default-cause-2 : goal.unreachable-requires-in_default-cause-2
unreachable-requires-in_default-cause-2 c = rw (c.in-Some-breach.ensures.orphan, c.in_default-cause-2.is) at (c.cause_of-cause.ensures c.args.f c.requires)

pub returns-in_ok-explanation-in-Some-breach : goal.returns-in_ok-explanation-in-Some-breach
returns-in_ok-explanation-in-Some-breach c =
    let r = c.args.trace.now.recording in
    let b = c.in-Some-breach.breach in
    let named = Orphan b.instant b.delivery b.crash b.orphan in
    let told : IsCauseOf r c.args.f named (Some c.in-Some-cause.cause) =
    subst (IsCauseOf r c.args.f named) c.in-Some-cause.is (subst (λ v. IsCauseOf r c.args.f v c.cause_of-cause.result) c.in-Some-breach.ensures.orphan (c.cause_of-cause.ensures c.args.f c.requires)) in
    let x = c.in_ok-explanation-in-Some-breach in
    rw c.in-Some-breach.ensures.orphan
    (IfOk-weaker c.explanation_facts.result _ _ (λ found same. (c.in-Some-cause.cause, told, (x.explanation, x.ensures, same))) c.explanation_facts.ensures)
