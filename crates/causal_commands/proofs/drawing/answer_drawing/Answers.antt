use Rattle.causal_commands.specs.Drawings.{IsDrawingAnswer}
use Rattle.causal_commands.proofs.Writing.{writes, writes_nothing}
use Rattle.causal_commands.proofs.drawing.answer_drawing.Goals as goal

pub returns-in-Ok-clause-writes : goal.returns-in-Ok-clause-writes
returns-in-Ok-clause-writes g c =
    writes (λ text. IsDrawingAnswer c.args.limits.entries c.args.selection text c.args.f) (g.I.Read.remaining c.args.input.now) (g.O.Write.contents c.args.output.now) (g.O.Write.contents c.write_answer.new.output)
    c.in-Ok.answer c.write_answer.result.ended c.in-Ok.ensures.whole_answer c.in-Ok.ensures.ok c.write_answer.ensures.written

pub returns-in-Err-clause-writes : goal.returns-in-Err-clause-writes
returns-in-Err-clause-writes g c = writes_nothing (λ text. IsDrawingAnswer c.args.limits.entries c.args.selection text c.args.f) (g.I.Read.remaining c.args.input.now) (g.O.Write.contents c.args.output.now) c.in-Err.ended c.in-Err.ensures.err
