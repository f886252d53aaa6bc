use Rattle.causal_outcomes.proofs.MergeLemmas.{merged_whole, merged_first}
use Rattle.causal_outcomes.proofs.merge_command.answer_merge.Goals as goal

pub returns-in-Ok-write_whole-clause-writes : goal.returns-in-Ok-write_whole-clause-writes
returns-in-Ok-write_whole-clause-writes g c =
    merged_whole c.args.limits.entries c.args.mapping (g.I.Read.remaining c.args.input.now) (g.O.Write.contents c.args.output.now) (g.O.Write.contents c.write_whole.new.writer) c.in-Ok.answer.merging c.in-Ok.answer.text.items _ c.as_slice.ensures.value c.in-Ok.ensures.ok c.in-Ok-write_whole.ensures.ok

pub returns-clause-writes : goal.returns-clause-writes
returns-clause-writes g c =
    merged_first c.args.limits.entries c.args.mapping (g.I.Read.remaining c.args.input.now) (g.O.Write.contents c.args.output.now) (g.O.Write.contents c.write_whole.new.writer) c.in-Ok.answer.merging c.in-Ok.answer.text.items _ _ c.as_slice.ensures.value c.in-Ok.ensures.ok c.in-Err-write_whole.ensures.err.0 c.in-Err-write_whole.ensures.err.1
