use Rattle.causal_runtime_commands.proofs.PrintLemmas.{prints_whole, prints_first}
use Rattle.causal_runtime_commands.proofs.script.answer_script.Goals as goal

pub returns-in-Ok-write_whole-clause-prints : goal.returns-in-Ok-write_whole-clause-prints
returns-in-Ok-write_whole-clause-prints g c =
    prints_whole (g.I.Read.remaining c.args.input.now) (g.O.Write.contents c.args.output.now) (g.O.Write.contents c.write_whole.new.writer) c.in-Ok.answer.ended c.in-Ok.answer.text.items _ c.as_slice.ensures.value c.in-Ok.ensures.ok c.in-Ok-write_whole.ensures.ok

pub returns-clause-prints : goal.returns-clause-prints
returns-clause-prints g c =
    prints_first (g.I.Read.remaining c.args.input.now) (g.O.Write.contents c.args.output.now) (g.O.Write.contents c.write_whole.new.writer) c.in-Ok.answer.ended c.in-Ok.answer.text.items _ _ c.as_slice.ensures.value c.in-Ok.ensures.ok c.in-Err-write_whole.ensures.err.0 c.in-Err-write_whole.ensures.err.1
