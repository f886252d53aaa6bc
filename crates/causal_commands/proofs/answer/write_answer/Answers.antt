use Rattle.causal_commands.proofs.Refusals.{names}
use Rattle.causal_commands.proofs.Writing.{line_begun, line_written}
use Rattle.causal_commands.proofs.answer.write_answer.Goals as goal
use Rattle.causal_commands.proofs.answer.write_answer.Goals.{in-Ok, in-Err}

pub returns-clause-written : goal.returns-clause-written
returns-clause-written g c =
    let old = g.O.Write.contents c.args.output.now in
    let new = g.O.Write.contents c.write_whole.new.writer in
    elim c.match-write_whole.branch [
      | in-Ok w ↦ line_written c.args.answer _ old new _ c.as_slice.ensures.value w.ended-is w.in-Ok.ensures.ok
      | in-Err w ↦ line_begun c.args.answer _ old new _ _ c.as_slice.ensures.value w.ended-is w.in-Err.ensures.err.0 w.in-Err.ensures.err.1
    ]

pub returns-clause-fault : goal.returns-clause-fault
returns-clause-fault g c = λ most given h. names most given c.args.f c.args.answer.refusal c.diagnose-fault.result h c.diagnose-fault.ensures
