use Rattle.std.proofs.Common.{sym, subst}
use Rattle.causal_commands.specs.PrintedAnswers.{IsPrintedAnswer}
use Rattle.causal_commands.specs.Inside.Answers.{WritesNothing, WritesWholeAnswer}
use Rattle.causal_commands.specs.Inside.Refusals.{IsTrueRefusalFor}
use Rattle.causal_outcomes.specs.Diagnostics.{IsDiagnosisFor}
use Rattle.causal_commands.proofs.Writing.{printed, writes, writes_nothing}
use Rattle.causal_commands.proofs.question.answer_question.Goals as goal

pub returns-in-Ok-printed_answer-clause-writes : goal.returns-in-Ok-printed_answer-clause-writes
returns-in-Ok-printed_answer-clause-writes g c =
    let given = g.I.Read.remaining c.args.input.now in
    let answer = c.in-Ok-printed_answer.answer in
    let of = printed c.args.limits.entries c.args.form c.args.question given c.in-Ok.response answer c.in-Ok-printed_answer.ensures.ended c.in-Ok-printed_answer.ensures.line c.in-Ok.ensures.ok in
    let told = subst WritesWholeAnswer (sym c.in-Ok-printed_answer.ensures.ended) c.in-Ok.ensures.whole_answer in
    writes (λ text. IsPrintedAnswer c.args.limits.entries c.args.form c.args.question text) given (g.O.Write.contents c.args.output.now) (g.O.Write.contents c.write_answer.new.output)
    answer c.write_answer.result.ended told of c.write_answer.ensures.written

pub returns-in-Err-clause-writes : goal.returns-in-Err-clause-writes
returns-in-Err-clause-writes g c = writes_nothing (λ text. IsPrintedAnswer c.args.limits.entries c.args.form c.args.question text) (g.I.Read.remaining c.args.input.now) (g.O.Write.contents c.args.output.now) c.in-Err.ended c.in-Err.ensures.err

pub returns-in-Err-printed_answer-clause-writes : goal.returns-in-Err-printed_answer-clause-writes
returns-in-Err-printed_answer-clause-writes g c = writes_nothing (λ text. IsPrintedAnswer c.args.limits.entries c.args.form c.args.question text) (g.I.Read.remaining c.args.input.now) (g.O.Write.contents c.args.output.now)
    c.in-Err-printed_answer.ended (subst WritesNothing (sym c.in-Err-printed_answer.ensures.err) tt)

pub returns-in-Ok-printed_answer-clause-fault : goal.returns-in-Ok-printed_answer-clause-fault
returns-in-Ok-printed_answer-clause-fault g c =
    let most = c.args.limits.entries in
    let given = g.I.Read.remaining c.args.input.now in
    subst (λ f. IsDiagnosisFor most given f c.write_answer.result.fault) c.faults.ensures
    (c.write_answer.ensures.fault most given (subst (IsTrueRefusalFor most given) (sym c.in-Ok-printed_answer.ensures.rejected) c.in-Ok.ensures.rejected))
